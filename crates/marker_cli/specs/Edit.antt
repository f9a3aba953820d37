-- The commands `edit DOC SHEET SCRIPT` and `history DOC SHEET SCRIPT DEPTH` (our own).
use Rattle.std.specs.Prelude.{◌≡◌, ℕ, List, [], ◌∷◌, ◌++◌, Option, Some, None, Result, Ok, Err, codes}
use Rattle.std.specs.Fmt.{decimal}
use Rattle.edit_script.specs.Scripts.{ReadsAsScript}
use Rattle.edit_script.specs.declared.action.Action.{Action}
use Rattle.edit_script.specs.declared.action.Action.TheVariants.{Change, SheetFile, Show, Undo, Redo, Enter}
use Rattle.edit_script.specs.declared.command.Command.{Command}
use Rattle.edit_inverses.specs.Versions.{Version}
use Rattle.edit_script.specs.declared.script_kind.ScriptKind.{ScriptKind}
use Rattle.edit_script.specs.declared.script_kind.ScriptKind.TheVariants.{Edits, History}
use Rattle.generated_texts.specs.Lines.{fresh_dump}
use Rattle.node_arena.specs.Edits.{place_fault}
use Rattle.node_arena.specs.declared.place_fault.PlaceFault.{PlaceFault}
use Rattle.node_arena.specs.declared.place_fault.PlaceFault.TheVariants.{NoPlace, IntoItself}
use Rattle.plain_types.specs.declared.edit.Edit.{Edit}
use Rattle.plain_types.specs.declared.edit.Edit.TheVariants.{ReplaceSheet}
use Rattle.ports.specs.Files.{Files}
use Rattle.marker_cli.specs.declared.status.FileAt.TheVariants.{Word, Line}
use Rattle.marker_cli.specs.declared.status.Status.{Status}
use Rattle.marker_cli.specs.declared.status.Status.TheVariants.{BadScript}
use Rattle.marker_cli.specs.declared.status.Status.TheVariants as status
use Rattle.marker_cli.specs.Documents.{Reading, tree_of}
use Rattle.marker_cli.specs.Output.{Output, ends, writes, goes_on}
use Rattle.marker_cli.specs.Turns.{text_in, with_text}
use Rattle.marker_cli.specs.Versions.{Versions, begun, edited, redone, undone}

-- With a depth a script has the lines `undo` and `redo` too.
abbrev pub kind_of : Option ℕ → ScriptKind
kind_of None = Edits
kind_of (Some depth) = History

-- SCRIPT reads as these commands of a kind, or its first bad line has this number, where all three files have texts
abbrev pub ScriptReadsAs : Files → (document sheet script : List ℕ) → ScriptKind → Result (List Command) ℕ → Type 0
ScriptReadsAs files document sheet script kind reading =
    (text style lines : List ℕ) → text_in (Word 1) (files document) ≡ Ok text → text_in (Word 2) (files sheet) ≡ Ok style
    → text_in (Word 3) (files script) ≡ Ok lines → ReadsAsScript kind lines reading

-- the commands of a script, or the status with which it ends the run
abbrev pub commands_of : Result (List Command) ℕ → Result (List Command) Status
commands_of (Ok commands) = Ok commands
commands_of (Err number) = Err (BadScript number)

-- What the commands write. Each tells the number of its line in the script.

-- what `show` shows: a dump between two lines
abbrev pub shown_dump : ℕ → List ℕ → List ℕ
shown_dump number dump = (codes "show " ++ (decimal number ++ codes "\n")) ++ (dump ++ codes "end\n")

-- that of a fresh evaluation
abbrev pub shown : ℕ → Version → List ℕ
shown number version = shown_dump number (fresh_dump version.sheet version.document)

abbrev pub refusal : PlaceFault → List ℕ
refusal NoPlace = codes " no-place\n"
refusal IntoItself = codes " into-itself\n"

-- the line about a refused edit
abbrev pub refused : ℕ → PlaceFault → List ℕ
refused number fault = codes "refused " ++ (decimal number ++ refusal fault)

-- the line about an `undo` or a `redo` that finds nothing
abbrev pub nothing : ℕ → List ℕ
nothing number = codes "refused " ++ (decimal number ++ codes " nothing\n")

-- the line about an `in` that finds no document of its name
abbrev pub no_document : ℕ → List ℕ
no_document number = codes "refused " ++ (decimal number ++ codes " no-document\n")

-- What the commands do.

-- an edit that has its place is done, and of another it is told why it is refused
abbrev pub after_edit : ℕ → ℕ → Edit → Versions → Option PlaceFault → (Versions → Output) → Output
after_edit depth number edit versions None next = next (edited depth edit versions)
after_edit depth number edit versions (Some fault) next = writes (refused number fault) (next versions)

-- a step back or forth leads to other versions, or there is nothing to be undone or redone, and that is told
abbrev pub after_step : ℕ → Versions → Option Versions → (Versions → Output) → Output
after_step number versions (Some led) next = next led
after_step number versions None next = writes (nothing number) (next versions)

-- One command, where so many edits can be undone, and what comes next. A `sheet` line is the edit that replaces the sheet. Here no
-- document has a name, so that none is found by one; only the script of a book looks for one.
abbrev pub action_output : Files → ℕ → ℕ → Action → Versions → (Versions → Output) → Output
action_output files depth number (Change edit) versions next = after_edit depth number edit versions (place_fault edit versions.present.document) next
action_output files depth number (SheetFile name) versions next = with_text files (Line number) name (λ text. next (edited depth (ReplaceSheet text) versions))
action_output files depth number Show versions next = writes (shown number versions.present) (next versions)
action_output files depth number Undo versions next = after_step number versions (undone versions) next
action_output files depth number Redo versions next = after_step number versions (redone versions) next
action_output files depth number (Enter name) versions next = writes (no_document number) (next versions)

-- all of them, in their order
abbrev pub play : Files → ℕ → List Command → Versions → Output
play files depth [] versions = ends status.Ok
play files depth (command ∷ commands) versions = action_output files depth command.line command.action versions (play files depth commands)

-- how many edits can be undone: without a depth none
abbrev pub kept_edits : Option ℕ → ℕ
kept_edits None = 0
kept_edits (Some depth) = depth

-- the output of `edit DOC SHEET SCRIPT`, or with a depth that of `history DOC SHEET SCRIPT DEPTH`, where DOC and SCRIPT read so
abbrev pub edit_output : Files → (document sheet script : List ℕ) → Option ℕ → Reading → Result (List Command) ℕ → Output
edit_output files document sheet script depth reading script_reading =
    with_text files (Word 1) document (λ text.
    with_text files (Word 2) sheet (λ style.
    with_text files (Word 3) script (λ lines.
    goes_on (tree_of reading) (λ tree.
    goes_on (commands_of script_reading) (λ commands.
    play files (kept_edits depth) commands (begun (record { document = tree; sheet = style })))))))
