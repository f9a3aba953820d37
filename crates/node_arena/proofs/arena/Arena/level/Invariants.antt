use Rattle.std.proofs.Common.{◌≡◌, ◌≤◌, ◌+◌, length}
use Rattle.forest.specs.Spots.{IsLive}
use Rattle.forest.specs.Paths.{route_of}
use Rattle.node_arena.proofs.arena.Arena.level.Given as goal

abbrev pub invariant-climb : goal.invariant-climb
invariant-climb l = record {
  live : IsLive l.self.tree l.at;
  some : 1 ≤ l.level;
  counted : length (route_of l.self.tree l.at) + l.level ≡ length (route_of l.self.tree l.fn.key) + 1;
}

abbrev pub decreases-climb : goal.decreases-climb
decreases-climb l = length (route_of l.self.tree l.at)
