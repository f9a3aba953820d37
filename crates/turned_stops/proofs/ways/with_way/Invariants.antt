use Rattle.turned_stops.proofs.StopLemmas.{ArePut}
use Rattle.turned_stops.proofs.ways.with_way.Given as goal

abbrev pub invariant-loop-depth : goal.invariant-loop-depth
invariant-loop-depth l = ArePut l.arena.tree l.way l.stops l.depth l.from l.all.items
