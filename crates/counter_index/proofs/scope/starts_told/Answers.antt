use Rattle.std.proofs.Common.{◌∷◌, ◌++◌, [], FitsSigned, ap, rules, w64, ◌∙◌}
use Rattle.std.proofs.lemmas.Int.{to_z-of_z}
use Rattle.box_eval.specs.declared.inputs.Start.{Start}
use Rattle.counter_index.specs.Indexes.{countings, told_by_scope}
use Rattle.counter_index.proofs.ListLemmas.{map-turn}
use Rattle.counter_index.proofs.scope.starts_told.Goals as goal

pub loop-start-preserved : goal.loop-start-preserved
loop-start-preserved c =
    let item = c.start-item.result in
    let told = told_by_scope (countings c.args.deeds.now.held) c.args.arena.now.tree in
    let name = c.in_ok-duplicate.ensures.same in
    let fits : FitsSigned w64 c.in_ok-start_told.field-0 = search rules in
    let value = to_z-of_z w64 c.in_ok-start_told.field-0 fits ∙ c.in_ok-start_told.ensures.start ∙ ap (told item.creator) c.as_str.ensures.characters in
    map-turn (λ (start : Start). record { creator = start.creator; name = start.name; value = told start.creator start.name })
    c.loop-start.told c.push.new.self c.args.asked.now c.loop-start.start-index item c.loop-start-test.true c.start-item.is c.loop-start.invariant
    (c.in_ok-push.ensures.ok ∙ (λ i. c.loop-start.told ++ record { creator = item.creator; name = name i; value = value i } ∷ []))
