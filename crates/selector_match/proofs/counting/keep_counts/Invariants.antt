use Rattle.std.proofs.Common.{length, not}
use Rattle.selector_match.specs.Positions.{siblings}
use Rattle.selector_match.specs.Machinery.Lookups.{standing_at}
use Rattle.selector_match.specs.Machinery.Sides.{is_later}
use Rattle.selector_match.proofs.CountLaws.{HasPassed}
use Rattle.selector_match.proofs.counting.keep_counts.Given as goal

abbrev pub invariant-along : goal.invariant-along
invariant-along l = HasPassed l.arena.tree (is_later l.side) l.at l.all l.passed.by_name.entries l.kept.entries

abbrev pub decreases-along : goal.decreases-along
decreases-along l = length (siblings (not (is_later l.side)) (standing_at l.arena.tree l.at).level)
