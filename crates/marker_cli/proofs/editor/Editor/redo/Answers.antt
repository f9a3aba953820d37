use Rattle.std.proofs.Common.{refl}
use Rattle.std.specs.Prelude.{None}
use Rattle.undo_ring.specs.Histories.{future, past, present, version_of}
use Rattle.marker_cli.specs.Versions.{begun}
use Rattle.marker_cli.proofs.EditorLemmas.{forth_answers, no_step}
use Rattle.marker_cli.proofs.StepLemmas.{forth_most}
use Rattle.std.proofs.Common.{ap}
use Rattle.std.proofs.lemmas.Result.{on_err_weaker}
use Rattle.dirty_walk.specs.Books.{keyed_source}
use Rattle.marker_cli.proofs.TakenLemmas.{forth_took, took_nothing}
use Rattle.marker_cli.proofs.editor.Editor.redo.Goals as goal

pub returns-in-Plain-clause-answer : goal.returns-in-Plain-clause-answer
returns-in-Plain-clause-answer g c = rw c.in-Plain.is (no_step (begun (version_of c.in-Plain.field-0)) None refl)

pub returns-in-Versioned-clause-answer : goal.returns-in-Versioned-clause-answer
returns-in-Versioned-clause-answer g c =
    rw c.in-Versioned.is
    (forth_answers c.redo-outcome.result c.in-Versioned.history c.redo-outcome.new.self c.redo-outcome.ensures.future c.redo-outcome.ensures.past c.redo-outcome.ensures.nothing c.redo-outcome.ensures.failed)

pub returns-in-Versioned-clause-steps : goal.returns-in-Versioned-clause-steps
returns-in-Versioned-clause-steps g c =
    let history = c.in-Versioned.history in
    rw c.in-Versioned.is (forth_most (present history) (past history) (future history) _ _ c.redo-outcome.ensures.steps c.redo-outcome.ensures.no_steps)

pub returns-in-Plain-clause-takes : goal.returns-in-Plain-clause-takes
returns-in-Plain-clause-takes g c = rw c.in-Plain.is (took_nothing (keyed_source c.in-Plain.field-0) None _)

pub returns-in-Versioned-clause-takes : goal.returns-in-Versioned-clause-takes
returns-in-Versioned-clause-takes g c =
    let history = c.in-Versioned.history in
    let outcome = c.redo-outcome in
    rw c.in-Versioned.is
    (forth_took outcome.result history.book outcome.new.self.book (future outcome.new.self) _ _ (rw c.engine.ensures.engine at c.engine_holds_document.ensures)
    history.redos (past history) outcome.ensures.future outcome.ensures.keys outcome.ensures.within_work outcome.ensures.stops_within_work outcome.ensures.steps outcome.ensures.no_steps
    (on_err_weaker outcome.result (λ same. ap (λ history. keyed_source history.book) same) outcome.ensures.failed))
