use Rattle.std.proofs.Common.{◌≡◌, filter, take}
use Rattle.started_walk.specs.Exchanges.{asks_and_stays}
use Rattle.started_walk.proofs.turned.turned_keys.Given as goal

abbrev pub invariant-loop-key : goal.invariant-loop-key
invariant-loop-key l = l.turned ≡ filter (asks_and_stays l.arena.tree l.index l.stops) (take l.key-index l.other)
