use Rattle.std.proofs.Common.{◌≡◌, false, take}
use Rattle.std.specs.List.{list_any}
use Rattle.turned_stops.specs.Machinery.ComingAt.{comes_at}
use Rattle.turned_stops.proofs.coming.is_root_coming.Given as goal

abbrev pub invariant-loop-stop : goal.invariant-loop-stop
invariant-loop-stop l = list_any (comes_at l.key) (take l.stop-index l.stops) ≡ false
