use Rattle.std.proofs.Common.{refl}
use Rattle.std.specs.Prelude.{None}
use Rattle.undo_ring.specs.Histories.{future, past, present, version_of}
use Rattle.marker_cli.specs.Versions.{begun}
use Rattle.marker_cli.proofs.EditorLemmas.{back_answers, no_step}
use Rattle.marker_cli.proofs.StepLemmas.{back_most}
use Rattle.std.proofs.Common.{ap}
use Rattle.std.proofs.lemmas.Result.{on_err_weaker}
use Rattle.dirty_walk.specs.Books.{keyed_source}
use Rattle.marker_cli.proofs.TakenLemmas.{back_took, took_nothing}
use Rattle.marker_cli.proofs.editor.Editor.undo.Goals as goal

pub returns-in-Plain-clause-answer : goal.returns-in-Plain-clause-answer
returns-in-Plain-clause-answer g c = rw c.in-Plain.is (no_step (begun (version_of c.in-Plain.field-0)) None refl)

pub returns-in-Versioned-clause-answer : goal.returns-in-Versioned-clause-answer
returns-in-Versioned-clause-answer g c =
    rw c.in-Versioned.is
    (back_answers c.undo-outcome.result c.in-Versioned.history c.undo-outcome.new.self c.undo-outcome.ensures.past c.undo-outcome.ensures.future c.undo-outcome.ensures.nothing c.undo-outcome.ensures.failed)

pub returns-in-Versioned-clause-steps : goal.returns-in-Versioned-clause-steps
returns-in-Versioned-clause-steps g c =
    let history = c.in-Versioned.history in
    rw c.in-Versioned.is (back_most (present history) (past history) (future history) _ _ c.undo-outcome.ensures.steps c.undo-outcome.ensures.no_steps)

pub returns-in-Plain-clause-takes : goal.returns-in-Plain-clause-takes
returns-in-Plain-clause-takes g c = rw c.in-Plain.is (took_nothing (keyed_source c.in-Plain.field-0) None _)

pub returns-in-Versioned-clause-takes : goal.returns-in-Versioned-clause-takes
returns-in-Versioned-clause-takes g c =
    let history = c.in-Versioned.history in
    let outcome = c.undo-outcome in
    rw c.in-Versioned.is
    (back_took outcome.result history.book outcome.new.self.book (past outcome.new.self) _ _ (rw c.engine.ensures.engine at c.engine_holds_document.ensures)
    history.undos (future history) outcome.ensures.past outcome.ensures.keys outcome.ensures.within_work outcome.ensures.stops_within_work outcome.ensures.steps outcome.ensures.no_steps
    (on_err_weaker outcome.result (λ same. ap (λ history. keyed_source history.book) same) outcome.ensures.failed))
