use Rattle.std.proofs.Common.{◌≡◌, ◌∙◌, ◌+◌, ◌++◌, ◌∷◌, [], ℕ, ℤ, List, Option, pos, rules, to_z, of_z, w64, sym, ap, take}
use Rattle.std.proofs.lemmas.List.{take_more}
use Rattle.std.specs.Prelude.{unwrap_or}
use Rattle.plain_types.specs.declared.style.CounterOp.{CounterOp}
use Rattle.counter_sets.specs.ByNames.{value_of}
use Rattle.box_eval.specs.Lookups.{first_place}
use Rattle.box_eval.specs.Properties.{is_for, sum_for}
use Rattle.box_eval.proofs.OpLemmas.{merged_kept, merged_more}
use Rattle.box_eval.proofs.PlaceLemmas.{is_first, not_first}
use Rattle.box_eval.proofs.ops.merged_many.Goals.{then-is_at+in_ok-duplicate+in_ok-push, else-is_at}
use Rattle.box_eval.proofs.ops.merged_many.Goals as goal

pub loop-place-preserved : goal.loop-place-preserved
loop-place-preserved c =
    let increments = c.args.increments.now in
    let place = c.loop-place.place in
    let op : CounterOp = c.index-increments-place.result in
    let front = take place increments in
    let through = take (place + 1) increments in
    let whole : List ℕ → CounterOp = λ name. record { name = name; value = sum_for name increments } in
    let below = c.loop-place-test.true in
    let read = c.index-increments-place.is in
    let more : through ≡ front ++ op ∷ [] = take_more increments place op below ∙ ap (λ item. front ++ item ∷ []) (sym read) in
    let found : c.get.result ≡ first_place (is_for op.name) increments = c.get.ensures.value ∙ ap (value_of c.in_ok-first.first) c.as_str.ensures.characters ∙ c.in_ok-first.ensures.places op.name in
    elim c.if-is_at.branch [
      | then-is_at+in_ok-duplicate+in_ok-push w ↦
          let entry : List ℕ → ℤ → CounterOp = λ name value. record { name = name; value = value } in
          let held : to_z w64 (of_z w64 w.unwrap_or.result) ≡ w.unwrap_or.result = search rules in
          let sum : to_z w64 (of_z w64 w.unwrap_or.result) ≡ sum_for op.name increments =
          held ∙ w.unwrap_or.ensures
          ∙ ap (λ (o : Option ℤ). unwrap_or o (pos 0)) (w.get-then-is_at.ensures.value ∙ ap (value_of c.in_ok-sums.sums) w.as_str-then-is_at.ensures.characters)
          ∙ c.in_ok-sums.ensures.sums op.name in
          w.all-is
          ∙ w.in_ok-push.ensures.ok
          ∙ ap (λ (added : CounterOp). c.loop-place.all ++ added ∷ []) (ap (λ name. entry name (to_z w64 (of_z w64 w.unwrap_or.result))) w.in_ok-duplicate.ensures.same ∙ ap (entry op.name) sum)
          ∙ merged_more whole front through c.loop-place.all op more c.loop-place.invariant (is_first increments place op below read c.get.result found (sym c.is_at.ensures.test ∙ w.if-is_at.true))
      | else-is_at w ↦
          w.all-is ∙ merged_kept whole front through c.loop-place.all op more c.loop-place.invariant (not_first increments place op below read c.get.result found (sym c.is_at.ensures.test ∙ w.if-is_at.false))
    ]
