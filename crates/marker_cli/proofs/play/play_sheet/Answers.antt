use Rattle.std.proofs.Common.{arith, refl}
use Rattle.marker_cli.proofs.EndsLemmas.{at_start, at_text, ends_no_text}
use Rattle.marker_cli.proofs.PlayLemmas.{goes_replaced, goes_stopped}
use Rattle.marker_cli.proofs.ReadLemmas.{on_ok}
use Rattle.marker_cli.proofs.StepLemmas.{spends_by, spends_none, spends_text}
use Rattle.std.specs.Prelude.{None}
use Rattle.plain_types.specs.declared.edit.Edit.TheVariants.{ReplaceSheet}
use Rattle.marker_cli.specs.declared.status.FileAt.TheVariants.{Line}
use Rattle.marker_cli.specs.Editors.{depth_of, document_of, versions_of}
use Rattle.marker_cli.specs.Turns.{text_in}
use Rattle.marker_cli.specs.Versions.{edited}
use Rattle.marker_cli.specs.WorkSteps.{EditTakes, ScriptTakes}
use Rattle.marker_cli.proofs.PlayedLemmas.{takes_none, takes_text}
use Rattle.marker_cli.proofs.TakenLemmas.{none_by_text}
use Rattle.marker_cli.proofs.play.play_sheet.Goals as goal

pub returns-in_err-text-clause-told : goal.returns-in_err-text-clause-told
returns-in_err-text-clause-told g c files before next alike told =
    goes_stopped c.from_residual.result c.from_residual.ensures
    (ends_no_text files _ _ _ (at_start _ _) (c.in_err-text.ensures.told files told) (λ failed. failed))

pub returns-clause-told : goal.returns-clause-told
returns-clause-told g c files before next alike told =
    goes_replaced next c.replace_sheet.result alike (at_text files _ _ _ (at_start _ _) (c.in_ok-text.ensures.told files told))
    c.replace_sheet.ensures.ok c.replace_sheet.ensures.cause

pub returns-clause-reads : goal.returns-clause-reads
returns-clause-reads g c files told = on_ok c.replace_sheet.result (c.in_ok-text.ensures.came files told)

pub returns-in_err-text-clause-steps : goal.returns-in_err-text-clause-steps
returns-in_err-text-clause-steps g c files next alike told = spends_none c.from_residual.result _ _ _ _ c.from_residual.ensures.0 refl

pub returns-clause-steps : goal.returns-clause-steps
returns-clause-steps g c files next alike told =
    spends_text c.replace_sheet.result c.in_ok-text.text _ _ _ _ _ (c.in_ok-text.ensures.told files told)
    (spends_by c.replace_sheet.result next _ _ _ _ _ alike c.replace_sheet.ensures.steps c.replace_sheet.ensures.ok)

pub returns-in_err-text-clause-takes : goal.returns-in_err-text-clause-takes
returns-in_err-text-clause-takes g c files commands told =
    let depth = depth_of c.args.editor.now in
    takes_none c.from_residual.result _ _ _ _ c.from_residual.ensures.0
    (none_by_text _ (λ text. EditTakes None (ReplaceSheet text) (document_of c.args.editor.now) (ScriptTakes files depth commands (versions_of c.args.editor.now) (document_of c.args.editor.now))
    (ScriptTakes files depth commands (edited depth (ReplaceSheet text) (versions_of c.args.editor.now))))
    (λ text. tt)) (omega arith)

pub returns-clause-takes : goal.returns-clause-takes
returns-clause-takes g c files commands told =
    let depth = depth_of c.args.editor.now in
    takes_text c.replace_sheet.result c.in_ok-text.text (text_in (Line c.args.number) (files _))
    (λ text. EditTakes None (ReplaceSheet text) (document_of c.args.editor.now) (ScriptTakes files depth commands (versions_of c.args.editor.now) (document_of c.args.editor.now))
    (ScriptTakes files depth commands (edited depth (ReplaceSheet text) (versions_of c.args.editor.now))))
    _ _ _ (c.in_ok-text.ensures.told files told) (c.replace_sheet.ensures.takes files commands)
