use Rattle.std.proofs.Common.{◌≡◌, ◌≤◌, ◌++◌, length, reverse, vec_capacity}
use Rattle.forest.specs.Spots.{IsLive}
use Rattle.forest.specs.Paths.{route_of}
use Rattle.marker_engine.proofs.node_path.fill_path.Given as goal

abbrev pub invariant-climb : goal.invariant-climb
invariant-climb l = record {
  live : IsLive l.arena.tree l.at;
  route : route_of l.arena.tree l.fn.key ≡ route_of l.arena.tree l.at ++ reverse l.positions.items;
  room : vec_capacity l.fn.positions ≤ vec_capacity l.positions;
}

abbrev pub decreases-climb : goal.decreases-climb
decreases-climb l = length (route_of l.arena.tree l.at)
