use Rattle.std.proofs.Common.{◌≡◌, ◌∙◌, ◌++◌, ◌∷◌, [], sym, ap, append_assoc, false, true}
use Rattle.std.specs.List.{list_any}
use Rattle.plain_types.specs.declared.style.CounterOp.{CounterOp}
use Rattle.box_eval.specs.Properties.{is_for, last_assigns}
use Rattle.box_eval.proofs.OpLemmas.{last_here, last_later}
use Rattle.box_eval.proofs.ops.last_of_few.Goals as goal

pub loop-op-preserved-in_ok-push : goal.loop-op-preserved-in_ok-push
loop-op-preserved-in_ok-push c =
    let op : CounterOp = c.in-Some.op.now in
    let later = c.in-Some.later.now in
    let none : list_any (is_for op.name) later ≡ false =
    sym (ap (λ name. list_any (is_for name) later) c.as_str.ensures.characters) ∙ sym c.is_named_in.ensures.test ∙ c.if-not-is_named_in.true in
    let step = last_here (λ (op : CounterOp). op.name) c.loop-op.rest.now later op c.in-Some.ensures.cases.0 none in
    ap (λ all. all ++ last_assigns later) (c.in_ok-push.ensures.ok ∙ ap (λ copy. c.loop-op.last ++ copy ∷ []) c.in_ok-duplicate.ensures.same)
    ∙ append_assoc c.loop-op.last (op ∷ []) (last_assigns later) ∙ ap (λ all. c.loop-op.last ++ all) (sym step) ∙ c.loop-op.invariant

pub loop-op-preserved : goal.loop-op-preserved
loop-op-preserved c =
    let op : CounterOp = c.in-Some.op.now in
    let later = c.in-Some.later.now in
    let some : list_any (is_for op.name) later ≡ true =
    sym (ap (λ name. list_any (is_for name) later) c.as_str.ensures.characters) ∙ sym c.is_named_in.ensures.test ∙ c.if-not-is_named_in.false in
    let step = last_later (λ (op : CounterOp). op.name) c.loop-op.rest.now later op c.in-Some.ensures.cases.0 some in
    ap (λ all. c.loop-op.last ++ all) (sym step) ∙ c.loop-op.invariant
