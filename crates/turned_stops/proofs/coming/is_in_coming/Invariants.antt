use Rattle.std.proofs.Common.{◌≡◌, length}
use Rattle.std.specs.List.{list_any}
use Rattle.forest.specs.Spots.{IsLive}
use Rattle.start_reach.specs.TurnedElements.{way_to}
use Rattle.turned_stops.specs.Machinery.ComingAt.{comes_at}
use Rattle.turned_stops.proofs.coming.is_in_coming.Given as goal

abbrev pub invariant-climb : goal.invariant-climb
invariant-climb l = record {
  live : IsLive l.arena.tree l.at;
  same : list_any (λ node. list_any (comes_at node) l.stops) (way_to l.arena.tree l.key) ≡ list_any (λ node. list_any (comes_at node) l.stops) (way_to l.arena.tree l.at);
}

abbrev pub decreases-climb : goal.decreases-climb
decreases-climb l = length (way_to l.arena.tree l.at)
