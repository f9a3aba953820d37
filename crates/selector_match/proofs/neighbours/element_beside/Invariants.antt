use Rattle.selector_match.specs.Machinery.Sides.{is_later}
use Rattle.selector_match.proofs.SeatLaws.{left_beside}
use Rattle.selector_match.proofs.StandingLaws.{Along}
use Rattle.selector_match.proofs.neighbours.element_beside.Given as goal

abbrev pub invariant-beside : goal.invariant-beside
invariant-beside l = Along l.arena.tree (is_later l.side) l.key l.at

abbrev pub decreases-beside : goal.decreases-beside
decreases-beside l = left_beside l.arena.tree (is_later l.side) l.at
