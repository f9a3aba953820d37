use Rattle.marker_cli.proofs.StepLemmas.{engine_most}
use Rattle.std.proofs.Common.{◌≡◌, ◌∙◌, ◌⊎◌, ap, inl, inr, refl, rules, sym}
use Rattle.std.proofs.lemmas.Result.{on_err_weaker}
use Rattle.std.specs.Prelude.{Ok, Err}
use Rattle.marker_engine.specs.declared.edit_fault.EditFault.{EditFault}
use Rattle.marker_engine.specs.declared.edit_fault.EditFault.TheVariants.{NoPlace, IntoItself, Memory}
use Rattle.dirty_walk.specs.Books.{keyed_source}
use Rattle.marker_cli.specs.WorkSteps.{EditsTake}
use Rattle.marker_cli.proofs.EditorLemmas.{engine_memory}
use Rattle.marker_cli.proofs.PlayLemmas.{where_err, where_ok}
use Rattle.marker_cli.proofs.PlayedLemmas.{counted_refused, edit_done, edit_stopped, none_edits}
use Rattle.marker_cli.proofs.TakenLemmas.{engine_took}
use Rattle.marker_cli.proofs.generated.apply_counted.Goals as goal

not_memory : (told : EditFault) → (told ≡ NoPlace) ⊎ (told ≡ IntoItself) → told ≡ Memory → ⊥
not_memory told (inl is) same = let both : Memory ≡ NoPlace = sym same ∙ is in absurd (cc both)
not_memory told (inr is) same = let both : Memory ≡ IntoItself = sym same ∙ is in absurd (cc both)

pub returns-in-Ok-clause-steps : goal.returns-in-Ok-clause-steps
returns-in-Ok-clause-steps g c = engine_most c.args.edit.now c.args.engine.now _ _ c.apply-outcome.ensures.steps c.apply-outcome.ensures.no_steps

pub returns-in-Ok-clause-takes : goal.returns-in-Ok-clause-takes
returns-in-Ok-clause-takes g c edits =
    let took = engine_took c.apply-outcome.result c.args.edit.now (keyed_source c.args.engine.now) _ _ _ c.engine_holds_document.ensures c.engine_holds_document-2.ensures c.inserts_one_tree.ensures
    c.apply-outcome.ensures.ok c.apply-outcome.ensures.keys c.apply-outcome.ensures.within_work c.apply-outcome.ensures.stops_within_work
    (engine_most c.args.edit.now c.args.engine.now _ _ c.apply-outcome.ensures.steps c.apply-outcome.ensures.no_steps)
    (on_err_weaker c.apply-outcome.result (λ same. ap keyed_source same) c.apply-outcome.ensures.failed) in
    edit_done c.args.edit.now (keyed_source c.args.engine.now) (EditsTake edits (keyed_source c.args.engine.now)) (EditsTake edits) _ _ _ _ _ (λ rest takes. takes) (where_ok c.apply-outcome.result c.in-Ok.is took.done)

pub returns-in-Err-NoPlace-clause-takes : goal.returns-in-Err-NoPlace-clause-takes
returns-in-Err-NoPlace-clause-takes g c edits =
    let told = c.in-Err-NoPlace.field-0 in
    let which : (told ≡ NoPlace) ⊎ (told ≡ IntoItself) = search rules in
    counted_refused (Ok _) edits c.args.edit.now c.apply-outcome.result (keyed_source c.args.engine.now) _ _ _ told c.in-Err-NoPlace.is (not_memory told which)
    (engine_memory c.apply-outcome.result c.args.edit.now c.args.engine.now c.apply-outcome.ensures.memory)
    (engine_most c.args.edit.now c.args.engine.now _ _ c.apply-outcome.ensures.steps c.apply-outcome.ensures.no_steps)
    (on_err_weaker c.apply-outcome.result (λ same. ap keyed_source same) c.apply-outcome.ensures.failed)

pub returns-in-Err-Memory-clause-takes : goal.returns-in-Err-Memory-clause-takes
returns-in-Err-Memory-clause-takes g c edits =
    let took = engine_took c.apply-outcome.result c.args.edit.now (keyed_source c.args.engine.now) _ _ _ c.engine_holds_document.ensures c.engine_holds_document-2.ensures c.inserts_one_tree.ensures
    c.apply-outcome.ensures.ok c.apply-outcome.ensures.keys c.apply-outcome.ensures.within_work c.apply-outcome.ensures.stops_within_work
    (engine_most c.args.edit.now c.args.engine.now _ _ c.apply-outcome.ensures.steps c.apply-outcome.ensures.no_steps)
    (on_err_weaker c.apply-outcome.result (λ same. ap keyed_source same) c.apply-outcome.ensures.failed) in
    edit_stopped c.args.edit.now (keyed_source c.args.engine.now) (EditsTake edits (keyed_source c.args.engine.now)) (EditsTake edits) (Err (record {})) _ _ _ refl
    (none_edits edits (keyed_source c.args.engine.now)) (none_edits edits) (where_err c.apply-outcome.result c.in-Err-Memory.is took.stops)
