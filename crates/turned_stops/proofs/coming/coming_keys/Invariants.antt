use Rattle.std.proofs.Common.{◌≡◌, take}
use Rattle.turned_stops.specs.Coming.{coming_at_stops}
use Rattle.turned_stops.proofs.coming.coming_keys.Given as goal

abbrev pub invariant-loop-stop : goal.invariant-loop-stop
invariant-loop-stop l = l.keys ≡ coming_at_stops l.arena.tree (take l.stop-index l.stops)
