use Rattle.marker_cli.proofs.EditorLemmas.{engine_answers, history_answers}
use Rattle.marker_cli.proofs.StepLemmas.{engine_most}
use Rattle.std.proofs.Common.{ap}
use Rattle.std.proofs.lemmas.Result.{on_err_weaker}
use Rattle.dirty_walk.specs.Books.{keyed_source}
use Rattle.marker_cli.proofs.TakenLemmas.{engine_took}
use Rattle.marker_cli.proofs.editor.Editor.apply.Goals as goal

pub returns-in-Plain-clause-answer : goal.returns-in-Plain-clause-answer
returns-in-Plain-clause-answer g c =
    rw c.in-Plain.is
    (engine_answers c.apply-outcome.result c.args.edit.now c.in-Plain.engine c.apply-outcome.new.self c.apply-outcome.ensures.ok c.apply-outcome.ensures.refused c.apply-outcome.ensures.memory c.apply-outcome.ensures.failed)

pub returns-in-Versioned-clause-answer : goal.returns-in-Versioned-clause-answer
returns-in-Versioned-clause-answer g c =
    rw c.in-Versioned.is
    (history_answers c.apply-outcome-in-Versioned.result c.args.edit.now c.in-Versioned.history c.apply-outcome-in-Versioned.new.self c.apply-outcome-in-Versioned.ensures.present
    c.apply-outcome-in-Versioned.ensures.past c.apply-outcome-in-Versioned.ensures.future c.apply-outcome-in-Versioned.ensures.refused c.apply-outcome-in-Versioned.ensures.memory
    c.apply-outcome-in-Versioned.ensures.failed)

pub returns-in-Plain-clause-steps : goal.returns-in-Plain-clause-steps
returns-in-Plain-clause-steps g c = rw c.in-Plain.is (engine_most c.args.edit.now c.in-Plain.engine _ _ c.apply-outcome.ensures.steps c.apply-outcome.ensures.no_steps)

pub returns-in-Versioned-clause-steps : goal.returns-in-Versioned-clause-steps
returns-in-Versioned-clause-steps g c =
    rw c.in-Versioned.is (engine_most c.args.edit.now c.in-Versioned.history.book _ _ c.apply-outcome-in-Versioned.ensures.steps c.apply-outcome-in-Versioned.ensures.no_steps)

pub returns-in-Plain-clause-takes : goal.returns-in-Plain-clause-takes
returns-in-Plain-clause-takes g c =
    rw c.in-Plain.is
    (engine_took c.apply-outcome.result c.args.edit.now (keyed_source c.in-Plain.engine) (keyed_source c.apply-outcome.new.self) _ _ c.engine_holds_document.ensures c.engine_holds_document-in-Plain.ensures
    c.inserts_one_tree.ensures c.apply-outcome.ensures.ok c.apply-outcome.ensures.keys c.apply-outcome.ensures.within_work c.apply-outcome.ensures.stops_within_work
    (engine_most c.args.edit.now c.in-Plain.engine _ _ c.apply-outcome.ensures.steps c.apply-outcome.ensures.no_steps)
    (on_err_weaker c.apply-outcome.result (λ same. ap keyed_source same) c.apply-outcome.ensures.failed))

pub returns-in-Versioned-clause-takes : goal.returns-in-Versioned-clause-takes
returns-in-Versioned-clause-takes g c =
    let history = c.in-Versioned.history in
    rw c.in-Versioned.is
    (engine_took c.apply-outcome-in-Versioned.result c.args.edit.now (keyed_source history.book) (keyed_source c.apply-outcome-in-Versioned.new.self.book) _ _
    (rw c.engine.ensures.engine at c.engine_holds_document-in-Versioned.ensures)
    (rw c.engine-in-Versioned.ensures.engine at c.engine_holds_document-in-Versioned-2.ensures)
    c.inserts_one_tree.ensures c.apply-outcome-in-Versioned.ensures.present c.apply-outcome-in-Versioned.ensures.keys c.apply-outcome-in-Versioned.ensures.within_work
    c.apply-outcome-in-Versioned.ensures.stops_within_work
    (engine_most c.args.edit.now history.book _ _ c.apply-outcome-in-Versioned.ensures.steps c.apply-outcome-in-Versioned.ensures.no_steps)
    (on_err_weaker c.apply-outcome-in-Versioned.result (λ same. ap (λ history. keyed_source history.book) same) c.apply-outcome-in-Versioned.ensures.failed))
