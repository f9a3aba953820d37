use Rattle.std.proofs.Common.{arith, refl}
use Rattle.marker_cli.proofs.EndsLemmas.{at_start, at_text, ends_no_text}
use Rattle.marker_cli.proofs.PlayBookLemmas.{goes_replaced, spends_by}
use Rattle.marker_cli.proofs.PlayLemmas.{goes_stopped}
use Rattle.marker_cli.proofs.ReadLemmas.{on_ok}
use Rattle.marker_cli.proofs.StepLemmas.{spends_none, spends_text}
use Rattle.std.specs.Prelude.{None}
use Rattle.plain_types.specs.declared.edit.Edit.TheVariants.{ReplaceSheet}
use Rattle.marker_cli.specs.declared.status.FileAt.TheVariants.{Line}
use Rattle.marker_cli.specs.BookWork.{BookScriptTakes}
use Rattle.marker_cli.specs.OpenVolumes.{present_document, with_document}
use Rattle.marker_cli.specs.Turns.{text_in}
use Rattle.marker_cli.specs.WorkSteps.{EditTakes}
use Rattle.marker_cli.proofs.PlayedLemmas.{takes_none, takes_text}
use Rattle.marker_cli.proofs.TakenLemmas.{none_by_text}
use Rattle.marker_cli.proofs.play_book.play_chapter_sheet.Goals as goal

pub returns-in_err-text-clause-told : goal.returns-in_err-text-clause-told
returns-in_err-text-clause-told g c files before next told =
    goes_stopped c.from_residual.result c.from_residual.ensures
    (ends_no_text files _ _ _ (at_start _ _) (c.in_err-text.ensures.told files told) (λ failed. failed))

pub returns-clause-told : goal.returns-clause-told
returns-clause-told g c files before next told =
    goes_replaced next c.replace_chapter_sheet.result (at_text files _ _ _ (at_start _ _) (c.in_ok-text.ensures.told files told))
    c.replace_chapter_sheet.ensures.ok c.replace_chapter_sheet.ensures.cause

pub returns-clause-reads : goal.returns-clause-reads
returns-clause-reads g c files told = on_ok c.replace_chapter_sheet.result (c.in_ok-text.ensures.came files told)

pub returns-in_err-text-clause-steps : goal.returns-in_err-text-clause-steps
returns-in_err-text-clause-steps g c files next told = spends_none c.from_residual.result _ _ _ _ c.from_residual.ensures.0 refl

pub returns-clause-steps : goal.returns-clause-steps
returns-clause-steps g c files next told =
    spends_text c.replace_chapter_sheet.result c.in_ok-text.text _ _ _ _ _ (c.in_ok-text.ensures.told files told)
    (spends_by c.replace_chapter_sheet.result next _ _ _ _ _ c.replace_chapter_sheet.ensures.steps c.replace_chapter_sheet.ensures.ok)

pub returns-in_err-text-clause-takes : goal.returns-in_err-text-clause-takes
returns-in_err-text-clause-takes g c files commands told =
    let book = c.args.book.now in
    takes_none c.from_residual.result _ _ _ _ c.from_residual.ensures.0
    (none_by_text _ (λ text. EditTakes None (ReplaceSheet text) (present_document book) (BookScriptTakes files commands book) (λ after. BookScriptTakes files commands (with_document book after)))
    (λ text. tt)) (omega arith)

pub returns-clause-takes : goal.returns-clause-takes
returns-clause-takes g c files commands told =
    let book = c.args.book.now in
    takes_text c.replace_chapter_sheet.result c.in_ok-text.text (text_in (Line c.args.number) (files _))
    (λ text. EditTakes None (ReplaceSheet text) (present_document book) (BookScriptTakes files commands book) (λ after. BookScriptTakes files commands (with_document book after)))
    _ _ _ (c.in_ok-text.ensures.told files told) (c.replace_chapter_sheet.ensures.takes files commands)
