use Rattle.std.proofs.Common.{length}
use Rattle.forest.specs.Spots.{IsLive}
use Rattle.selector_match.specs.Positions.{siblings}
use Rattle.selector_match.specs.Machinery.Lookups.{IsElement, standing_at}
use Rattle.selector_match.specs.Machinery.Sides.{is_later}
use Rattle.selector_match.proofs.counting.outermost.Given as goal

abbrev pub invariant-beside : goal.invariant-beside
invariant-beside l = IsLive l.arena.tree l.at × IsElement l.arena.tree l.at

abbrev pub decreases-beside : goal.decreases-beside
decreases-beside l = length (siblings (is_later l.side) (standing_at l.arena.tree l.at).level)
