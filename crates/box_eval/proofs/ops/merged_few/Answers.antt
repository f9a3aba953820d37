use Rattle.std.proofs.Common.{◌≡◌, ◌∙◌, ◌+◌, ◌++◌, ◌∷◌, [], ℕ, List, sym, ap, false, true, take}
use Rattle.std.proofs.lemmas.List.{take_more}
use Rattle.std.specs.List.{list_any}
use Rattle.plain_types.specs.declared.style.CounterOp.{CounterOp}
use Rattle.box_eval.specs.Properties.{is_for, sum_for}
use Rattle.box_eval.proofs.OpLemmas.{merged_kept, merged_more}
use Rattle.box_eval.proofs.ops.merged_few.Goals.{then-not-is_named_in+in_ok-with_sum+in_ok-push, else-not-is_named_in}
use Rattle.box_eval.proofs.ops.merged_few.Goals as goal

pub loop-place-preserved : goal.loop-place-preserved
loop-place-preserved c =
    let increments = c.args.increments.now in
    let front = take c.loop-place.place increments in
    let through = take (c.loop-place.place + 1) increments in
    let op : CounterOp = c.index-increments-place.result in
    let whole : List ℕ → CounterOp = λ name. record { name = name; value = sum_for name increments } in
    let more : through ≡ front ++ op ∷ [] = take_more increments c.loop-place.place op c.loop-place-test.true ∙ ap (λ item. front ++ item ∷ []) (sym c.index-increments-place.is) in
    let named = ap (λ name. list_any (is_for name) front) c.as_str.ensures.characters in
    elim c.if-not-is_named_in.branch [
      | then-not-is_named_in+in_ok-with_sum+in_ok-push w ↦
          let new : list_any (is_for op.name) front ≡ false = sym named ∙ sym c.is_named_in.ensures.test ∙ w.if-not-is_named_in.true in
          w.all-is ∙ w.in_ok-push.ensures.ok ∙ ap (λ entry. c.loop-place.all ++ entry ∷ []) w.in_ok-with_sum.ensures.entry
          ∙ merged_more whole front through c.loop-place.all op more c.loop-place.invariant new
      | else-not-is_named_in w ↦
          let old : list_any (is_for op.name) front ≡ true = sym named ∙ sym c.is_named_in.ensures.test ∙ w.if-not-is_named_in.false in
          w.all-is ∙ merged_kept whole front through c.loop-place.all op more c.loop-place.invariant old
    ]
