use Rattle.node_arena.proofs.AttrLaws.{IsCopied}
use Rattle.node_arena.proofs.attrs.with_attr.Given as goal

abbrev pub invariant-loop-attr : goal.invariant-loop-attr
invariant-loop-attr l = IsCopied l.placed l.list l.attr-index l.attrs l.name l.value
