use Rattle.std.proofs.Common.{length}
use Rattle.selector_match.specs.Machinery.Kept.{AreRight}
use Rattle.selector_match.proofs.filling.keep_parts.Given as goal

abbrev pub invariant-parts : goal.invariant-parts
invariant-parts l = AreRight l.arena.tree l.kept

abbrev pub decreases-parts : goal.decreases-parts
decreases-parts l = length l.parts.items
