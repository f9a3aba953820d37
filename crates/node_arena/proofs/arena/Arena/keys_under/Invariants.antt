use Rattle.std.proofs.Common.{◌+◌, ◌-◌}
use Rattle.forest.specs.Forest.{size}
use Rattle.forest.specs.Spots.{children_of}
use Rattle.node_arena.proofs.UnderLaws.{AreFound}
use Rattle.node_arena.proofs.arena.Arena.keys_under.Given as goal

abbrev pub invariant-level : goal.invariant-level
invariant-level l = AreFound l.self.tree l.keys.items l.next l.key

abbrev pub decreases-level : goal.decreases-level
decreases-level l = 1 + size (children_of l.self.tree l.key) - l.next
