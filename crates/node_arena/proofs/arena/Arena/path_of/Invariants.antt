use Rattle.std.proofs.Common.{◌≡◌, ◌++◌, length, reverse}
use Rattle.forest.specs.Spots.{IsLive}
use Rattle.forest.specs.Paths.{route_of}
use Rattle.node_arena.proofs.arena.Arena.path_of.Given as goal

abbrev pub invariant-climb : goal.invariant-climb
invariant-climb l = record {
  live : IsLive l.self.tree l.at;
  route : route_of l.self.tree l.fn.key ≡ route_of l.self.tree l.at ++ reverse l.steps.items;
}

abbrev pub decreases-climb : goal.decreases-climb
decreases-climb l = length (route_of l.self.tree l.at)
