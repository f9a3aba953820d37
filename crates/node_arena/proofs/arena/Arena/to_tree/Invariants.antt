use Rattle.node_arena.proofs.ToTree.{IsBuilt, to_do}
use Rattle.node_arena.proofs.arena.Arena.to_tree.Given as goal

abbrev pub invariant-walk : goal.invariant-walk
invariant-walk l = IsBuilt l.self.tree l.builder l.inside l.link

abbrev pub decreases-walk : goal.decreases-walk
decreases-walk l = to_do l.self.tree l.inside l.link
