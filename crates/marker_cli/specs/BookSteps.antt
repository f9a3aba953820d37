-- How many steps the command `book SHEET SCRIPT DOC...` takes at most (our own): one evaluation of each document at the start,
-- and then of each command that is done what its one call takes.
use Rattle.std.specs.Prelude.{ℕ, ◌+◌, ◌*◌, List, [], ◌∷◌, Option, Some, None, Result, sum_by, unwrap_or}
use Rattle.book_definitions.specs.Fresh.{ChapterSource}
use Rattle.book_refs.specs.ShowWork.{fresh_chapter_work}
use Rattle.document_walk.specs.Elements.{element_count}
use Rattle.edit_script.specs.declared.action.Action.{Action}
use Rattle.edit_script.specs.declared.action.Action.TheVariants.{Change, SheetFile, Show, Undo, Redo, Enter}
use Rattle.edit_script.specs.declared.command.Command.{Command}
use Rattle.node_arena.specs.Edits.{place_fault}
use Rattle.node_arena.specs.declared.place_fault.PlaceFault.{PlaceFault}
use Rattle.plain_types.specs.declared.edit.Edit.{Edit}
use Rattle.plain_types.specs.declared.edit.Edit.TheVariants.{ReplaceSheet}
use Rattle.ports.specs.Files.{Files}
use Rattle.marker_cli.specs.declared.status.FileAt.TheVariants.{Word, Line}
use Rattle.marker_cli.specs.Documents.{Reading}
use Rattle.marker_cli.specs.Edit.{commands_of}
use Rattle.marker_cli.specs.EditSteps.{edit_steps, steps_with}
use Rattle.marker_cli.specs.OpenBooks.{OpenBook, chapters_of, edited_book, entered, opened, version_in, volume_of}
use Rattle.marker_cli.specs.Parts.{trees_of}
use Rattle.marker_cli.specs.Turns.{text_in}

-- What one call takes.

-- of each element of each chapter an evaluation takes three steps in each of its two walks, and its entry is kept
abbrev pub begin_steps : List ChapterSource → ℕ
begin_steps chapters = 7 * sum_by (λ (chapter : ChapterSource). element_count chapter.tree) chapters

-- to show the present chapter: of each element, each piece with a url and each piece with a url at what it aims at it is four at most
abbrev pub show_chapter_steps : OpenBook → ℕ
show_chapter_steps book = 4 * fresh_chapter_work (volume_of book) book.present

-- What the commands take, by the books that they go through.

-- the book that an edit leaves, done or refused
abbrev pub book_left_by_edit : Edit → OpenBook → Option PlaceFault → OpenBook
book_left_by_edit edit book None = edited_book edit book
book_left_by_edit edit book (Some fault) = book

-- one command, and what comes next
abbrev pub book_action_steps : Files → ℕ → Action → OpenBook → (OpenBook → ℕ) → ℕ
book_action_steps files number (Change edit) book next =
    edit_steps (version_in book.present) edit + next (book_left_by_edit edit book (place_fault edit book.present.tree))
book_action_steps files number (SheetFile name) book next =
    steps_with (text_in (Line number) (files name)) (λ text. edit_steps (version_in book.present) (ReplaceSheet text) + next (edited_book (ReplaceSheet text) book))
book_action_steps files number Show book next = show_chapter_steps book + next book
book_action_steps files number Undo book next = next book
book_action_steps files number Redo book next = next book
book_action_steps files number (Enter name) book next = next (unwrap_or (entered name book) book)

-- all of them, in their order
abbrev pub book_script_steps : Files → List Command → OpenBook → ℕ
book_script_steps files [] book = 0
book_script_steps files (command ∷ commands) book = book_action_steps files command.line command.action book (book_script_steps files commands)

-- The files of these names have their turns, and the run goes on where each has a text. The word at this place names the first.
abbrev pub steps_with_texts : Files → ℕ → List (List ℕ) → ℕ → ℕ
steps_with_texts files place [] next = next
steps_with_texts files place (name ∷ names) next = steps_with (text_in (Word place) (files name)) (λ text. steps_with_texts files (place + 1) names next)

-- the whole run, where the documents and SCRIPT read so
abbrev pub most_book_steps : Files → (sheet script : List ℕ) → List (List ℕ) → List Reading → Result (List Command) ℕ → ℕ
most_book_steps files sheet script documents readings script_reading =
    steps_with (text_in (Word 1) (files sheet)) (λ style.
    steps_with (text_in (Word 2) (files script)) (λ lines.
    steps_with_texts files 3 documents (
    steps_with (trees_of 3 readings) (λ trees.
    steps_with (commands_of script_reading) (λ commands.
    steps_with (opened (chapters_of style documents trees)) (λ book.
    begin_steps (volume_of book) + book_script_steps files commands book))))))
