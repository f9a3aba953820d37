use Rattle.std.proofs.Common.{◌≡◌, ◌-◌, length, take}
use Rattle.forest.specs.Spots.{IsLive}
use Rattle.forest.specs.Paths.{route_of}
use Rattle.node_arena.proofs.arena.Arena.ancestor.Given as goal

abbrev pub invariant-climb : goal.invariant-climb
invariant-climb l = record {
  live : IsLive l.self.tree l.at;
  route : route_of l.self.tree l.at ≡ take (length (route_of l.self.tree l.fn.key) - l._step) (route_of l.self.tree l.fn.key);
}
