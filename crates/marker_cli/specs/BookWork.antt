-- How many steps the command `book SHEET SCRIPT DOC...` takes at most by the work of its edits (our own): one evaluation of each
-- document at the start, and then what each call takes that its commands make, as `WorkSteps` speaks of it.
use Rattle.std.specs.Prelude.{◌≡◌, ◌⊎◌, ◌≤◌, ◌+◌, ℕ, List, [], ◌∷◌, map, None, Result, sum}
use Rattle.std.specs.List.{AllByRecursion}
use Rattle.book_definitions.specs.Chapters.{Chapter}
use Rattle.book_definitions.specs.Fresh.{ChapterSource, chapter_source}
use Rattle.edit_script.specs.declared.action.Action.{Action}
use Rattle.edit_script.specs.declared.action.Action.TheVariants.{Change, SheetFile, Show, Undo, Redo, Enter}
use Rattle.edit_script.specs.declared.command.Command.{Command}
use Rattle.forest.specs.Keys.{without_keys}
use Rattle.node_arena.specs.Document.{IsKeyedDocument}
use Rattle.node_arena.specs.Edits.{place_fault}
use Rattle.plain_types.specs.declared.edit.Edit.TheVariants.{ReplaceSheet}
use Rattle.ports.specs.Files.{Files}
use Rattle.marker_cli.specs.declared.status.FileAt.TheVariants.{Word, Line}
use Rattle.marker_cli.specs.BookSteps.{begin_steps, show_chapter_steps}
use Rattle.marker_cli.specs.Documents.{Reading}
use Rattle.marker_cli.specs.Edit.{commands_of}
use Rattle.marker_cli.specs.OpenBooks.{chapters_of}
use Rattle.marker_cli.specs.OpenVolumes.{OpenVolume, book_of, present_document, turned_to, with_document}
use Rattle.marker_cli.specs.Parts.{trees_of}
use Rattle.marker_cli.specs.Turns.{text_in}
use Rattle.marker_cli.specs.WorkSteps.{CallTakes, EditTakes, TakenWith, WithinWith}

-- one command, and what comes next: an edit is one of the present chapter, and the others stay with their keys
abbrev pub BookActionTakes : Files → ℕ → Action → OpenVolume → (OpenVolume → List ℕ → Type 0) → List ℕ → Type 0
BookActionTakes files number (Change edit) volume Next =
    EditTakes (place_fault edit (without_keys (present_document volume).tree)) edit (present_document volume) (Next volume) (λ after. Next (with_document volume after))
BookActionTakes files number (SheetFile name) volume Next =
    TakenWith (text_in (Line number) (files name)) (λ text. EditTakes None (ReplaceSheet text) (present_document volume) (Next volume) (λ after. Next (with_document volume after)))
BookActionTakes files number Show volume Next = CallTakes (λ steps rest. (steps ≤ show_chapter_steps (book_of volume)) × Next volume rest)
BookActionTakes files number Undo volume Next = Next volume
BookActionTakes files number Redo volume Next = Next volume
BookActionTakes files number (Enter name) volume Next = Next (turned_to name volume)

-- all of them, in their order
abbrev pub BookScriptTakes : Files → List Command → OpenVolume → List ℕ → Type 0
BookScriptTakes files [] volume taken = taken ≡ []
BookScriptTakes files (command ∷ commands) volume taken = BookActionTakes files command.line command.action volume (BookScriptTakes files commands) taken

-- from some keys of these chapters on, with the first one open, the calls of the commands take so many steps, and all of them are
-- beside those of the start
pub record BookTakesCalls (files : Files) (commands : List Command) (sources : List ChapterSource) (old new : ℕ) : Type 0 where
  pub chapters : List Chapter
  pub keyed : AllByRecursion (λ (chapter : Chapter). IsKeyedDocument chapter.document) chapters
  pub sources_are : map chapter_source chapters ≡ sources
  pub taken : List ℕ
  pub takes : BookScriptTakes files commands (record { chapters = chapters; place = 0 }) taken
  pub all : new ≤ old + (begin_steps sources + sum taken)

-- The files of these names have their turns, and where each has a text this holds. The word at this place names the first.
abbrev pub WithinTexts : Files → ℕ → List (List ℕ) → (old new : ℕ) → Type 0 → Type 0
WithinTexts files place [] old new Holds = Holds
WithinTexts files place (name ∷ names) old new Holds = WithinWith (text_in (Word place) (files name)) old new (λ text. WithinTexts files (place + 1) names old new Holds)

-- the whole run, where the documents and SCRIPT read so
abbrev pub IsBookWithinWork : Files → (sheet script : List ℕ) → List (List ℕ) → List Reading → Result (List Command) ℕ → (old new : ℕ) → Type 0
IsBookWithinWork files sheet script documents readings script_reading old new =
    WithinWith (text_in (Word 1) (files sheet)) old new (λ style.
    WithinWith (text_in (Word 2) (files script)) old new (λ lines.
    WithinTexts files 3 documents old new (
    WithinWith (trees_of 3 readings) old new (λ trees.
    WithinWith (commands_of script_reading) old new (λ commands.
    let sources : List ChapterSource = chapters_of style documents trees in
    (new ≤ old + begin_steps sources) ⊎ BookTakesCalls files commands sources old new)))))
