use Rattle.std.proofs.Common.{inl, inr, arith}
use Rattle.forest.proofs.PlaceLaws.{order-total}
use Rattle.node_arena.proofs.laws.tree_order_is_total.Goals as goal

pub returns-clause-total : goal.returns-clause-total
returns-clause-total c = λ tree document first second live_first live_second differ.
    elim (order-total tree first second document.distinct live_first live_second) [
      | inl same ↦ absurd (differ same)
      | inr ordered ↦ ordered
    ]

pub returns-clause-strict : goal.returns-clause-strict
returns-clause-strict c = λ tree document first second before after. omega arith

pub returns-clause-transitive : goal.returns-clause-transitive
returns-clause-transitive c = λ tree document first second third before after. omega arith
