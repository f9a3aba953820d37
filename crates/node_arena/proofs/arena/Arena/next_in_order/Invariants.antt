use Rattle.std.proofs.Common.{◌≡◌, length}
use Rattle.forest.specs.Spots.{IsLive}
use Rattle.forest.specs.Paths.{route_of}
use Rattle.forest.proofs.WalkLaws.{after_tree}
use Rattle.node_arena.proofs.arena.Arena.next_in_order.Given as goal

abbrev pub invariant-climb : goal.invariant-climb
invariant-climb l = record {
  live : IsLive l.self.tree l.at;
  same : after_tree l.self.tree l.at ≡ after_tree l.self.tree l.fn.key;
}

abbrev pub decreases-climb : goal.decreases-climb
decreases-climb l = length (route_of l.self.tree l.at)
