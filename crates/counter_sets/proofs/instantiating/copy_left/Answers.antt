use Rattle.std.proofs.Common.{◌∙◌, ◌+◌, ◌++◌, ◌∷◌, [], List, ap, drop, sym}
use Rattle.plain_types.specs.declared.counter.Counter.{Counter}
use Rattle.counter_sets.specs.Indexes.{left_by}
use Rattle.counter_sets.specs.Sets.{is_missing_in}
use Rattle.counter_sets.proofs.InstantiateLemmas.{goes_at, left_kept, left_out}
use Rattle.counter_sets.proofs.instantiating.copy_left.Goals.{then-not-goes+in_ok-duplicate+in_ok-push, else-not-goes}
use Rattle.counter_sets.proofs.instantiating.copy_left.Goals as goal

pub loop-place-preserved : goal.loop-place-preserved
loop-place-preserved c =
    let set = c.args.set.now in
    let new = c.args.new.now in
    let test = is_missing_in c.args.parent.now in
    let place = c.loop-place.place in
    let counter = c.index-set-place.result in
    let left = c.loop-place.left.items in
    let rest : List Counter = left_by test new (drop (place + 1) set) in
    let read = c.index-set-place.is in
    let below = c.loop-place-test.true in
    let goes = goes_at new set place counter below read c.in_ok-named.named c.in_ok-places.places c.in_ok-named.ensures.places c.in_ok-places.ensures.places (test counter) in
    elim c.if-not-goes.branch [
      | then-not-goes+in_ok-duplicate+in_ok-push w ↦
          ap (λ all. all.items ++ rest) w.left-is
          ∙ ap (λ items. items ++ rest) (w.in_ok-push.ensures.items ∙ ap (λ copy. left ++ copy ∷ []) w.in_ok-duplicate.ensures.same)
          ∙ sym (left_kept new set place counter below read test left (sym goes ∙ sym c.goes.ensures.test ∙ w.if-not-goes.true))
          ∙ c.loop-place.invariant
      | else-not-goes w ↦
          ap (λ all. all.items ++ rest) w.left-is
          ∙ sym (left_out new set place counter below read test left (sym goes ∙ sym c.goes.ensures.test ∙ w.if-not-goes.false))
          ∙ c.loop-place.invariant
    ]
