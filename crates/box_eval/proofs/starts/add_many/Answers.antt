use Rattle.std.proofs.Common.{◌∙◌, ◌+◌, ◌++◌, ◌∷◌, [], ℕ, ℤ, List, ap, append_assoc, drop, sym}
use Rattle.plain_types.specs.declared.box_id.BoxId.{BoxId}
use Rattle.plain_types.specs.declared.style.ResetOp.{ResetOp}
use Rattle.counter_sets.specs.ByNames.{value_of}
use Rattle.box_eval.specs.declared.inputs.Start.{Start}
use Rattle.box_eval.proofs.NeededStarts.{start_for, start_needed, start_skipped, starts_for}
use Rattle.box_eval.proofs.starts.add_many.Goals.{then-needs_start_at+in_ok-add_start, else-needs_start_at}
use Rattle.box_eval.proofs.starts.add_many.Goals as goal

pub loop-place-preserved : goal.loop-place-preserved
loop-place-preserved g c =
    let start : BoxId → List ℕ → ℤ = g.T.Starts.starts c.args.starts.now in
    let creator = c.args.creator in
    let resets = c.as_slice-resets.result.now in
    let place = c.loop-place.place in
    let reset : ResetOp = c.index-resets-place.result in
    let all = c.loop-place.all in
    let rest : List Start = starts_for start creator (drop (place + 1) resets) in
    let below = c.loop-place-test.true in
    let read = c.index-resets-place.is in
    let found = value_of c.in_ok-last.last reset.name in
    let finds = c.in_ok-last.ensures.places reset.name in
    elim c.if-needs_start_at.branch [
      | then-needs_start_at+in_ok-add_start w ↦
          ap (λ (starts : List Start). starts ++ rest) (w.all-is ∙ w.in_ok-add_start.ensures.ok)
          ∙ append_assoc all (start_for start creator reset ∷ []) rest
          ∙ ap (λ (starts : List Start). all ++ starts) (sym (start_needed start creator resets place reset below read found finds (sym c.needs_start_at.ensures.test ∙ w.if-needs_start_at.true)))
          ∙ c.loop-place.invariant
      | else-needs_start_at w ↦
          ap (λ (starts : List Start). starts ++ rest) w.all-is
          ∙ ap (λ (starts : List Start). all ++ starts) (sym (start_skipped start creator resets place reset below read found finds (sym c.needs_start_at.ensures.test ∙ w.if-needs_start_at.false)))
          ∙ c.loop-place.invariant
    ]
