use Rattle.std.proofs.Common.{◌++◌, ◌∷◌, [], sym, ap, ◌∙◌}
use Rattle.plain_types.specs.declared.attr.Attr.{Attr}
use Rattle.node_arena.proofs.AttrLaws.{filtered-stays, filtered-goes}
use Rattle.node_arena.proofs.attrs.without_attr.Goals as goal
use Rattle.node_arena.proofs.attrs.without_attr.Goals.{then-not-is_named+in_ok-duplicate+in_ok-push, else-not-is_named}

pub loop-attr-preserved : goal.loop-attr-preserved
loop-attr-preserved c =
    let a = c.attr-item.result in
    elim c.if-not-is_named.branch [
      | then-not-is_named+in_ok-duplicate+in_ok-push w ↦
          w.list-is ∙ w.in_ok-push.ensures.ok
          ∙ ap (λ (x : Attr). c.loop-attr.list ++ x ∷ []) w.in_ok-duplicate.ensures.same
          ∙ ap (λ list. list ++ a ∷ []) c.loop-attr.invariant
          ∙ sym (filtered-stays c.args.attrs.now c.loop-attr.attr-index c.args.name.now a c.loop-attr-test.true c.attr-item.is (sym c.is_named.ensures ∙ w.if-not-is_named.true))
      | else-not-is_named w ↦
          w.list-is ∙ c.loop-attr.invariant
          ∙ sym (filtered-goes c.args.attrs.now c.loop-attr.attr-index c.args.name.now a c.loop-attr-test.true c.attr-item.is (sym c.is_named.ensures ∙ w.if-not-is_named.false))
    ]
