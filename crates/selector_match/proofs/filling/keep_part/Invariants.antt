use Rattle.std.proofs.Common.{length}
use Rattle.std.specs.List.{All}
use Rattle.selector_match.specs.Machinery.Kept.{AreRight}
use Rattle.selector_match.specs.Machinery.Lookups.{IsElementThere}
use Rattle.selector_match.proofs.filling.keep_part.Given as goal

abbrev pub invariant-down : goal.invariant-down
invariant-down l = All (IsElementThere l.arena.tree) l.path.items × AreRight l.arena.tree l.kept

abbrev pub decreases-down : goal.decreases-down
decreases-down l = length l.path.items
