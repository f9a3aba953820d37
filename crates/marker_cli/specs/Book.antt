-- The command `book SHEET SCRIPT DOC...` (our own): the commands of a script are done with several documents, whose names are
-- the words DOC, and each of which begins with SHEET.
use Rattle.std.specs.Prelude.{ℕ, List, [], ◌∷◌, Option, Some, None, Result}
use Rattle.book_definitions.specs.Fresh.{fresh_chapter_dump}
use Rattle.edit_script.specs.Scripts.{ReadsAsScript}
use Rattle.edit_script.specs.declared.action.Action.{Action}
use Rattle.edit_script.specs.declared.action.Action.TheVariants.{Change, SheetFile, Show, Undo, Redo, Enter}
use Rattle.edit_script.specs.declared.command.Command.{Command}
use Rattle.edit_script.specs.declared.script_kind.ScriptKind.TheVariants.{Book}
use Rattle.node_arena.specs.Edits.{place_fault}
use Rattle.node_arena.specs.declared.place_fault.PlaceFault.{PlaceFault}
use Rattle.plain_types.specs.declared.edit.Edit.{Edit}
use Rattle.plain_types.specs.declared.edit.Edit.TheVariants.{ReplaceSheet}
use Rattle.ports.specs.Files.{Files}
use Rattle.marker_cli.specs.declared.status.FileAt.TheVariants.{Word, Line}
use Rattle.marker_cli.specs.declared.status.Status.TheVariants as status
use Rattle.marker_cli.specs.Documents.{Reading}
use Rattle.marker_cli.specs.Edit.{commands_of, no_document, nothing, refused, shown_dump}
use Rattle.marker_cli.specs.OpenBooks.{OpenBook, chapters_of, edited_book, entered, opened, volume_of}
use Rattle.marker_cli.specs.Output.{Output, ends, writes, goes_on}
use Rattle.marker_cli.specs.Parts.{HaveBookTexts, trees_of, with_texts}
use Rattle.marker_cli.specs.Turns.{with_text}

-- SCRIPT reads as these commands, or its first bad line has this number, where all files of the book have texts
abbrev pub BookScriptReadsAs : Files → (sheet script : List ℕ) → List (List ℕ) → Result (List Command) ℕ → Type 0
BookScriptReadsAs files sheet script documents reading =
    (style lines : List ℕ) (texts : List (List ℕ)) → HaveBookTexts files sheet script documents style lines texts → ReadsAsScript Book lines reading

-- What the commands do: edits, sheets and `show` to the present document.

-- what `show` shows: between two lines the dump of a fresh evaluation of the book, of the present document
abbrev pub chapter_shown : ℕ → OpenBook → List ℕ
chapter_shown number book = shown_dump number (fresh_chapter_dump (volume_of book) book.present)

-- an edit that has its place is done, and of another it is told why it is refused
abbrev pub after_chapter_edit : ℕ → Edit → OpenBook → Option PlaceFault → (OpenBook → Output) → Output
after_chapter_edit number edit book None next = next (edited_book edit book)
after_chapter_edit number edit book (Some fault) next = writes (refused number fault) (next book)

-- the document of a name becomes the present one, or there is none of it, and that is told
abbrev pub after_enter : ℕ → OpenBook → Option OpenBook → (OpenBook → Output) → Output
after_enter number book (Some led) next = next led
after_enter number book None next = writes (no_document number) (next book)

-- One command, and what comes next. A `sheet` line is the edit that replaces the sheet. Here no edit is kept to be undone or
-- redone; only a script with a history asks for one.
abbrev pub book_action : Files → ℕ → Action → OpenBook → (OpenBook → Output) → Output
book_action files number (Change edit) book next = after_chapter_edit number edit book (place_fault edit book.present.tree) next
book_action files number (SheetFile name) book next = with_text files (Line number) name (λ text. next (edited_book (ReplaceSheet text) book))
book_action files number Show book next = writes (chapter_shown number book) (next book)
book_action files number Undo book next = writes (nothing number) (next book)
book_action files number Redo book next = writes (nothing number) (next book)
book_action files number (Enter name) book next = after_enter number book (entered name book) next

-- all of them, in their order
abbrev pub play_book : Files → List Command → OpenBook → Output
play_book files [] book = ends status.Ok
play_book files (command ∷ commands) book = book_action files command.line command.action book (play_book files commands)

-- the output of `book SHEET SCRIPT DOC...`, where the documents and SCRIPT read so
abbrev pub book_output : Files → (sheet script : List ℕ) → List (List ℕ) → List Reading → Result (List Command) ℕ → Output
book_output files sheet script documents readings script_reading =
    with_text files (Word 1) sheet (λ style.
    with_text files (Word 2) script (λ lines.
    with_texts files 3 documents (
    goes_on (trees_of 3 readings) (λ trees.
    goes_on (commands_of script_reading) (λ commands.
    goes_on (opened (chapters_of style documents trees)) (λ book.
    play_book files commands book))))))
