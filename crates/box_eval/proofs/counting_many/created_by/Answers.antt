use Rattle.std.proofs.Common.{◌≡◌, ◌∙◌, ◌+◌, ◌++◌, ◌∷◌, [], ℕ, List, sym, ap, append_assoc, drop, map}
use Rattle.std.specs.Str.{bytes_eq}
use Rattle.plain_types.specs.declared.counter.Counter.{Counter}
use Rattle.plain_types.specs.declared.style.ResetOp.{ResetOp}
use Rattle.counter_sets.specs.ByNames.{value_of}
use Rattle.counter_sets.specs.Sets.{last_place}
use Rattle.box_eval.specs.Lookups.{created}
use Rattle.box_eval.specs.Properties.{last_resets}
use Rattle.box_eval.proofs.PlaceLemmas.{is_last, not_last}
use Rattle.box_eval.proofs.counting_many.created_by.Goals.{then-is_at+in_ok-created+in_ok-push, else-is_at}
use Rattle.box_eval.proofs.counting_many.created_by.Goals as goal

pub loop-place-preserved : goal.loop-place-preserved
loop-place-preserved c =
    let resets = c.args.resets.now in
    let place = c.loop-place.place in
    let op : ResetOp = c.index-resets-place.result in
    let new : ResetOp → Counter = created c.args.starts.now.0 c.args.starts.now.1 in
    let counters = c.loop-place.counters.items in
    let rest : List Counter = map new (last_resets (drop (place + 1) resets)) in
    let name_of : ResetOp → List ℕ = λ (op : ResetOp). op.name in
    let below = c.loop-place-test.true in
    let read = c.index-resets-place.is in
    let found : c.get.result ≡ last_place (λ (other : ResetOp). bytes_eq other.name op.name) resets = c.get.ensures.value ∙ ap (value_of c.in_ok-last.last) c.as_str.ensures.characters ∙ c.in_ok-last.ensures.places op.name in
    elim c.if-is_at.branch [
      | then-is_at+in_ok-created+in_ok-push w ↦
          ap (λ all. all.items ++ rest) w.counters-is
          ∙ ap (λ all. all ++ rest) (w.in_ok-push.ensures.items ∙ ap (λ counter. counters ++ counter ∷ []) w.in_ok-created.ensures.counter)
          ∙ append_assoc counters (new op ∷ []) rest
          ∙ ap (λ all. counters ++ map new all) (sym (is_last name_of resets place op below read c.get.result found (sym c.is_at.ensures.test ∙ w.if-is_at.true)))
          ∙ c.loop-place.invariant
      | else-is_at w ↦
          ap (λ all. all.items ++ rest) w.counters-is
          ∙ ap (λ all. counters ++ map new all) (sym (not_last name_of resets place op below read c.get.result found (sym c.is_at.ensures.test ∙ w.if-is_at.false)))
          ∙ c.loop-place.invariant
    ]
