use Rattle.std.proofs.Common.{◌≡◌, length}
use Rattle.forest.specs.Spots.{IsLive}
use Rattle.forest.specs.Paths.{route_of}
use Rattle.forest.specs.Order.{comes_before}
use Rattle.node_arena.proofs.arena.Arena.comes_before.Given as goal

abbrev pub invariant-climb : goal.invariant-climb
invariant-climb l = record {
  left : IsLive l.self.tree l.left;
  right : IsLive l.self.tree l.right;
  level : length (route_of l.self.tree l.left) ≡ length (route_of l.self.tree l.right);
  same : comes_before (route_of l.self.tree l.fn.first) (route_of l.self.tree l.fn.second) ≡ comes_before (route_of l.self.tree l.left) (route_of l.self.tree l.right);
}

abbrev pub decreases-climb : goal.decreases-climb
decreases-climb l = length (route_of l.self.tree l.left)
