use Rattle.start_reach.specs.TurnedElements.{is_earlier}
use Rattle.turned_stops.proofs.StopLemmas.{ArePassed}
use Rattle.turned_stops.proofs.ways.places_around.Given as goal

abbrev pub invariant-loop-place : goal.invariant-loop-place
invariant-loop-place l = ArePassed (is_earlier l.arena.tree) l.depth l.key l.stops l.place
