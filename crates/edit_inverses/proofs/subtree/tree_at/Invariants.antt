use Rattle.node_arena.proofs.ToTree.{to_do}
use Rattle.edit_inverses.proofs.SubtreeLaws.{IsBuiltUnder}
use Rattle.edit_inverses.proofs.subtree.tree_at.Given as goal

abbrev pub invariant-walk : goal.invariant-walk
invariant-walk l = IsBuiltUnder l.arena.tree l.key l.builder l.inside l.link

abbrev pub decreases-walk : goal.decreases-walk
decreases-walk l = to_do l.arena.tree l.inside l.link
