use Rattle.std.proofs.Common.{◌≡◌, ◌∙◌, ◌+◌, ◌++◌, ◌∷◌, [], ℕ, List, sym, ap, append_assoc, drop}
use Rattle.plain_types.specs.declared.style.CounterOp.{CounterOp}
use Rattle.counter_sets.specs.ByNames.{value_of}
use Rattle.counter_sets.specs.Sets.{last_place}
use Rattle.box_eval.specs.Properties.{is_for, last_assigns}
use Rattle.box_eval.proofs.PlaceLemmas.{is_last, not_last}
use Rattle.box_eval.proofs.ops.last_of_many.Goals.{then-is_at+in_ok-duplicate+in_ok-push, else-is_at}
use Rattle.box_eval.proofs.ops.last_of_many.Goals as goal

pub loop-place-preserved : goal.loop-place-preserved
loop-place-preserved c =
    let assigns = c.args.assigns.now in
    let place = c.loop-place.place in
    let op : CounterOp = c.index-assigns-place.result in
    let last = c.loop-place.last in
    let rest : List CounterOp = last_assigns (drop (place + 1) assigns) in
    let name_of : CounterOp → List ℕ = λ (op : CounterOp). op.name in
    let below = c.loop-place-test.true in
    let read = c.index-assigns-place.is in
    let found : c.get.result ≡ last_place (is_for op.name) assigns = c.get.ensures.value ∙ ap (value_of c.in_ok-places.places) c.as_str.ensures.characters ∙ c.in_ok-places.ensures.places op.name in
    elim c.if-is_at.branch [
      | then-is_at+in_ok-duplicate+in_ok-push w ↦
          ap (λ all. all ++ rest) (w.last-is ∙ w.in_ok-push.ensures.ok ∙ ap (λ copy. last ++ copy ∷ []) w.in_ok-duplicate.ensures.same)
          ∙ append_assoc last (op ∷ []) rest
          ∙ ap (λ all. last ++ all) (sym (is_last name_of assigns place op below read c.get.result found (sym c.is_at.ensures.test ∙ w.if-is_at.true)))
          ∙ c.loop-place.invariant
      | else-is_at w ↦
          ap (λ all. all ++ rest) w.last-is
          ∙ ap (λ all. last ++ all) (sym (not_last name_of assigns place op below read c.get.result found (sym c.is_at.ensures.test ∙ w.if-is_at.false)))
          ∙ c.loop-place.invariant
    ]
