use Rattle.std.proofs.Common.{length, true}
use Rattle.selector_match.specs.Positions.{siblings}
use Rattle.selector_match.specs.Machinery.Kept.{AreRight}
use Rattle.selector_match.specs.Machinery.Lookups.{IsElementThere, standing_at}
use Rattle.selector_match.proofs.filling.keep_row.Given as goal

abbrev pub invariant-along : goal.invariant-along
invariant-along l = IsElementThere l.arena.tree l.at × AreRight l.arena.tree l.kept

abbrev pub decreases-along : goal.decreases-along
decreases-along l = length (siblings true (standing_at l.arena.tree l.at).level)
