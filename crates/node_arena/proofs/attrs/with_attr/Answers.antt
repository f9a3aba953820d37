use Rattle.std.proofs.Common.{◌≡◌, ◌++◌, ◌∷◌, [], Bool, cond, length, refl, ap, subst, ◌∙◌, arith}
use Rattle.plain_types.specs.declared.attr.Attr.{Attr}
use Rattle.node_arena.proofs.AttrLaws.{IsCopied, copied-step, copied-all, copied-last}
use Rattle.node_arena.proofs.attrs.with_attr.Goals as goal
use Rattle.node_arena.proofs.attrs.with_attr.Goals.{then-not-placed+in_ok-new_attr+in_ok-push-2, else-not-placed}

pub loop-attr-preserved : goal.loop-attr-preserved
loop-attr-preserved c =
    let fresh : Attr = record { name = c.args.name.now; value = c.args.value.now } in
    let copy = c.in_ok-next_attr.ensures ∙ ap (λ (b : Bool). cond b fresh c.attr-item.result) c.is_replaced-here.ensures in
    rw (c.in_ok-push.ensures.ok, c.is_replaced-here.ensures)
    (copied-step c.loop-attr.placed c.loop-attr.list c.loop-attr.attr-index c.args.attrs.now c.args.name.now c.args.value.now c.attr-item.result c.in_ok-next_attr.field-0 _ c.loop-attr-test.true c.attr-item.is refl copy c.loop-attr.invariant)

pub returns : goal.returns
returns c =
    let attrs = c.args.attrs.now in
    let name = c.args.name.now in
    let value = c.args.value.now in
    let place = c.loop-attr.attr-index in
    let all : length attrs ≡ place = omega (arith, c.loop-attr-test.false, c.loop-attr.auto.attr-index-end) in
    elim c.if-not-placed.branch [
      | then-not-placed+in_ok-new_attr+in_ok-push-2 w ↦
          w.list-is ∙ w.in_ok-push-2.ensures.ok
          ∙ ap (λ (a : Attr). c.loop-attr.list ++ a ∷ []) w.in_ok-new_attr.ensures
          ∙ copied-last c.loop-attr.list attrs name value place all (subst (λ (b : Bool). IsCopied b c.loop-attr.list place attrs name value) w.if-not-placed.true c.loop-attr.invariant)
      | else-not-placed w ↦
          w.list-is
          ∙ copied-all c.loop-attr.list attrs name value place all (subst (λ (b : Bool). IsCopied b c.loop-attr.list place attrs name value) w.if-not-placed.false c.loop-attr.invariant)
    ]
