use Rattle.std.proofs.Common.{◌≡◌, Some, take}
use Rattle.forest.specs.Paths.{key_at}
use Rattle.node_arena.proofs.arena.Arena.at.Given as goal

abbrev pub invariant-loop-position : goal.invariant-loop-position
invariant-loop-position l = key_at l.self.tree (take l.position-index l.position-items) ≡ Some l.key
