use Rattle.std.proofs.Common.{◌∙◌, ap, arith, refl, sym}
use Rattle.ports.proofs.CauseLemmas.{raises_none}
use Rattle.marker_cli.specs.Edit.{shown}
use Rattle.marker_cli.specs.EditSteps.{show_steps}
use Rattle.marker_cli.specs.Output.{writes}
use Rattle.marker_cli.proofs.EndsLemmas.{at_same, at_start}
use Rattle.marker_cli.proofs.PlayLemmas.{goes_put, goes_weaker}
use Rattle.marker_cli.proofs.ReadLemmas.{on_ok}
use Rattle.marker_cli.proofs.SameLemmas.{same_history}
use Rattle.marker_cli.proofs.StepLemmas.{spends_by, spends_nothing}
use Rattle.marker_cli.specs.Editors.{depth_of, document_of, versions_of}
use Rattle.marker_cli.specs.WorkSteps.{ScriptTakes}
use Rattle.marker_cli.proofs.PlayedLemmas.{takes_nothing, takes_show, version_there}
use Rattle.marker_cli.proofs.TakenLemmas.{none_taken}
use Rattle.marker_cli.proofs.play.play_command.Goals as goal

pub returns-in-Change-clause-told : goal.returns-in-Change-clause-told
returns-in-Change-clause-told g c files next alike told =
    rw c.in-Change.is (goes_weaker c.play_edit.result (λ none. absurd none) (λ failed. failed) (c.play_edit.ensures.told next alike))

pub returns-in-SheetFile-clause-told : goal.returns-in-SheetFile-clause-told
returns-in-SheetFile-clause-told g c files next alike told =
    rw c.in-SheetFile.is (goes_weaker c.play_sheet.result (λ failed. failed) (λ none. absurd none)
    (rw c.as_str.ensures.characters at c.play_sheet.ensures.told files (g.O.Sink.out c.args.out.now) next alike told))

pub returns-in-Show-clause-told : goal.returns-in-Show-clause-told
returns-in-Show-clause-told g c files next alike told =
    rw c.in-Show.is (goes_put c.put_shown.result
    (at_same (ap (λ version. writes (shown c.args.command.now.line version) (next (versions_of c.args.editor.now))) (sym c.engine.ensures.version)) (at_start _ _))
    c.put_shown.ensures.ok c.put_shown.ensures.failed c.put_shown.ensures.cause)

pub returns-in-Undo-clause-told : goal.returns-in-Undo-clause-told
returns-in-Undo-clause-told g c files next alike told =
    rw c.in-Undo.is (goes_weaker c.put_step.result (λ none. absurd none) (λ failed. failed) (c.put_step.ensures.told _ _ _ next alike c.undo.ensures.answer))

pub returns-in-Redo-clause-told : goal.returns-in-Redo-clause-told
returns-in-Redo-clause-told g c files next alike told =
    rw c.in-Redo.is (goes_weaker c.put_step-in-Redo.result (λ none. absurd none) (λ failed. failed) (c.put_step-in-Redo.ensures.told _ _ _ next alike c.redo.ensures.answer))

pub returns-in-Enter-clause-told : goal.returns-in-Enter-clause-told
returns-in-Enter-clause-told g c files next alike told =
    rw c.in-Enter.is (goes_put c.put_no_document.result (at_start _ _) c.put_no_document.ensures.ok c.put_no_document.ensures.failed c.put_no_document.ensures.cause)

pub returns-in-Change-clause-reads : goal.returns-in-Change-clause-reads
returns-in-Change-clause-reads g c files told = rw c.in-Change.is (on_ok c.play_edit.result (raises_none _ _ refl))

pub returns-in-SheetFile-clause-reads : goal.returns-in-SheetFile-clause-reads
returns-in-SheetFile-clause-reads g c files told = rw c.in-SheetFile.is (rw c.as_str.ensures.characters at c.play_sheet.ensures.reads files told)

pub returns-in-Show-clause-reads : goal.returns-in-Show-clause-reads
returns-in-Show-clause-reads g c files told = rw c.in-Show.is (on_ok c.put_shown.result (raises_none _ _ refl))

pub returns-in-Undo-clause-reads : goal.returns-in-Undo-clause-reads
returns-in-Undo-clause-reads g c files told = rw c.in-Undo.is (on_ok c.put_step.result (raises_none _ _ refl))

pub returns-in-Redo-clause-reads : goal.returns-in-Redo-clause-reads
returns-in-Redo-clause-reads g c files told = rw c.in-Redo.is (on_ok c.put_step-in-Redo.result (raises_none _ _ refl))

pub returns-in-Enter-clause-reads : goal.returns-in-Enter-clause-reads
returns-in-Enter-clause-reads g c files told = rw c.in-Enter.is (on_ok c.put_no_document.result (raises_none _ _ refl))

pub returns-in-Change-clause-steps : goal.returns-in-Change-clause-steps
returns-in-Change-clause-steps g c files next alike told =
    rw c.in-Change.is (spends_by c.play_edit.result next _ _ _ _ _ alike c.play_edit.ensures.steps c.play_edit.ensures.left)

pub returns-in-SheetFile-clause-steps : goal.returns-in-SheetFile-clause-steps
returns-in-SheetFile-clause-steps g c files next alike told =
    rw c.in-SheetFile.is (rw c.as_str.ensures.characters at c.play_sheet.ensures.steps files next alike told)

pub returns-in-Show-clause-steps : goal.returns-in-Show-clause-steps
returns-in-Show-clause-steps g c files next alike told =
    let version = ap show_steps c.engine.ensures.version in
    let spent = c.put_shown.ensures.steps in
    rw c.in-Show.is
    (spends_by c.put_shown.result next _ _ (show_steps (versions_of c.args.editor.now).present) _ _ alike (omega (arith, version, spent))
    (on_ok c.put_shown.result (same_history (versions_of c.args.editor.now))))

pub returns-in-Undo-clause-steps : goal.returns-in-Undo-clause-steps
returns-in-Undo-clause-steps g c files next alike told =
    rw c.in-Undo.is (spends_by c.put_step.result next _ _ _ _ _ alike c.undo.ensures.steps (c.put_step.ensures.left _ _ _ c.undo.ensures.answer))

pub returns-in-Redo-clause-steps : goal.returns-in-Redo-clause-steps
returns-in-Redo-clause-steps g c files next alike told =
    rw c.in-Redo.is (spends_by c.put_step-in-Redo.result next _ _ _ _ _ alike c.redo.ensures.steps (c.put_step-in-Redo.ensures.left _ _ _ c.redo.ensures.answer))

pub returns-in-Enter-clause-steps : goal.returns-in-Enter-clause-steps
returns-in-Enter-clause-steps g c files next alike told = rw c.in-Enter.is (spends_nothing c.put_no_document.result _ _ _ _ refl refl)

pub returns-in-Change-clause-takes : goal.returns-in-Change-clause-takes
returns-in-Change-clause-takes g c files commands told = rw c.in-Change.is (c.play_edit.ensures.takes files commands)

pub returns-in-SheetFile-clause-takes : goal.returns-in-SheetFile-clause-takes
returns-in-SheetFile-clause-takes g c files commands told =
    rw c.in-SheetFile.is (rw c.as_str.ensures.characters at c.play_sheet.ensures.takes files commands told)

pub returns-in-Show-clause-takes : goal.returns-in-Show-clause-takes
returns-in-Show-clause-takes g c files commands told =
    let editor = c.args.editor.now in
    rw c.in-Show.is
    (takes_show c.put_shown.result (ScriptTakes files (depth_of editor) commands (versions_of editor) (document_of editor)) (document_of editor) _ _ _
    (c.engine.ensures.version ∙ version_there editor) (none_taken files (depth_of editor) commands (versions_of editor) (document_of editor)) c.put_shown.ensures.steps)

pub returns-in-Undo-clause-takes : goal.returns-in-Undo-clause-takes
returns-in-Undo-clause-takes g c files commands told =
    rw c.in-Undo.is (c.put_step.ensures.takes files _ commands _ _ _ _ _ _ _ c.undo.ensures.answer c.undo.ensures.takes)

pub returns-in-Redo-clause-takes : goal.returns-in-Redo-clause-takes
returns-in-Redo-clause-takes g c files commands told =
    rw c.in-Redo.is (c.put_step-in-Redo.ensures.takes files _ commands _ _ _ _ _ _ _ c.redo.ensures.answer c.redo.ensures.takes)

pub returns-in-Enter-clause-takes : goal.returns-in-Enter-clause-takes
returns-in-Enter-clause-takes g c files commands told =
    let editor = c.args.editor.now in
    rw c.in-Enter.is
    (takes_nothing c.put_no_document.result _ (ScriptTakes files (depth_of editor) commands (versions_of editor) (document_of editor)) _ _ (λ rest takes. takes)
    (none_taken files (depth_of editor) commands (versions_of editor) (document_of editor)) (omega arith))
