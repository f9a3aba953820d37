use Rattle.std.proofs.Common.{length}
use Rattle.turned_stops.proofs.WayLemmas.{IsClimbed, way_on}
use Rattle.turned_stops.proofs.ways.way_to.Given as goal

abbrev pub invariant-climb : goal.invariant-climb
invariant-climb l = IsClimbed l.arena.tree l.key l.link l.way.items

abbrev pub decreases-climb : goal.decreases-climb
decreases-climb l = length (way_on l.arena.tree l.link)
