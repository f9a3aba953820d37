use Rattle.std.proofs.Common.{refl}
use Rattle.ports.proofs.CauseLemmas.{raises_none}
use Rattle.marker_cli.proofs.EndsLemmas.{at_start}
use Rattle.marker_cli.proofs.PlayBookLemmas.{at_nothing, spends_by}
use Rattle.marker_cli.proofs.PlayLemmas.{goes_put, goes_weaker}
use Rattle.marker_cli.proofs.ReadLemmas.{on_ok}
use Rattle.marker_cli.specs.OpenVolumes.{book_of}
use Rattle.marker_cli.proofs.PlayedBookLemmas.{chapter_entered, chapter_shown, nothing_undone}
use Rattle.marker_cli.proofs.play_book.play_book_command.Goals as goal

pub returns-in-Change-clause-told : goal.returns-in-Change-clause-told
returns-in-Change-clause-told g c files next told =
    rw c.in-Change.is (goes_weaker c.play_chapter_edit.result (λ none. absurd none) (λ failed. failed) (c.play_chapter_edit.ensures.told next))

pub returns-in-Change-clause-reads : goal.returns-in-Change-clause-reads
returns-in-Change-clause-reads g c files told = rw c.in-Change.is (on_ok c.play_chapter_edit.result (raises_none _ _ refl))

pub returns-in-Change-clause-steps : goal.returns-in-Change-clause-steps
returns-in-Change-clause-steps g c files next told =
    rw c.in-Change.is (spends_by c.play_chapter_edit.result next _ _ _ _ _ c.play_chapter_edit.ensures.steps c.play_chapter_edit.ensures.left)

pub returns-in-SheetFile-clause-told : goal.returns-in-SheetFile-clause-told
returns-in-SheetFile-clause-told g c files next told =
    rw c.in-SheetFile.is (goes_weaker c.play_chapter_sheet.result (λ failed. failed) (λ none. absurd none)
    (rw c.as_str.ensures.characters at c.play_chapter_sheet.ensures.told files (g.O.Sink.out c.args.out.now) next told))

pub returns-in-SheetFile-clause-reads : goal.returns-in-SheetFile-clause-reads
returns-in-SheetFile-clause-reads g c files told = rw c.in-SheetFile.is (rw c.as_str.ensures.characters at c.play_chapter_sheet.ensures.reads files told)

pub returns-in-SheetFile-clause-steps : goal.returns-in-SheetFile-clause-steps
returns-in-SheetFile-clause-steps g c files next told =
    rw c.in-SheetFile.is (rw c.as_str.ensures.characters at c.play_chapter_sheet.ensures.steps files next told)

pub returns-in-Show-clause-told : goal.returns-in-Show-clause-told
returns-in-Show-clause-told g c files next told =
    rw c.in-Show.is (goes_put c.put_chapter.result (at_start _ _) c.put_chapter.ensures.ok c.put_chapter.ensures.failed c.put_chapter.ensures.cause)

pub returns-in-Show-clause-reads : goal.returns-in-Show-clause-reads
returns-in-Show-clause-reads g c files told = rw c.in-Show.is (on_ok c.put_chapter.result (raises_none _ _ refl))

pub returns-in-Show-clause-steps : goal.returns-in-Show-clause-steps
returns-in-Show-clause-steps g c files next told =
    rw c.in-Show.is (spends_by c.put_chapter.result next _ _ _ _ _ c.put_chapter.ensures.steps (on_ok c.put_chapter.result refl))

pub returns-in-Undo-clause-told : goal.returns-in-Undo-clause-told
returns-in-Undo-clause-told g c files next told =
    goes_put c.put_nothing.result (at_nothing files c.args.command.now.line c.args.command.now.action (book_of c.args.book.now) next _ c.in-Undo.is)
    c.put_nothing.ensures.ok c.put_nothing.ensures.failed c.put_nothing.ensures.cause

pub returns-in-Change-clause-takes : goal.returns-in-Change-clause-takes
returns-in-Change-clause-takes g c files commands told = rw c.in-Change.is (c.play_chapter_edit.ensures.takes files commands)

pub returns-in-SheetFile-clause-takes : goal.returns-in-SheetFile-clause-takes
returns-in-SheetFile-clause-takes g c files commands told =
    rw c.in-SheetFile.is (rw c.as_str.ensures.characters at c.play_chapter_sheet.ensures.takes files commands told)

pub returns-in-Show-clause-takes : goal.returns-in-Show-clause-takes
returns-in-Show-clause-takes g c files commands told = rw c.in-Show.is (chapter_shown c.put_chapter.result files commands c.args.book.now _ _ c.put_chapter.ensures.steps)

pub returns-in-Undo-clause-takes : goal.returns-in-Undo-clause-takes
returns-in-Undo-clause-takes g c files commands told =
    nothing_undone c.put_nothing.result files commands c.args.command.now.line c.args.command.now.action c.args.book.now _ c.in-Undo.is

pub returns-in-Enter-clause-takes : goal.returns-in-Enter-clause-takes
returns-in-Enter-clause-takes g c files commands told =
    rw c.in-Enter.is
    (chapter_entered c.enter_chapter.result files commands c.args.book.now _ _ _ (rw c.as_str-in-Enter.ensures.characters at c.enter_chapter.ensures.turned))
