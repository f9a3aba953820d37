-- The names of the files of a run (our own).
use Rattle.std.specs.Prelude.{ℕ, ◌==◌, if◌then◌else◌, List, [], ◌∷◌}
use Rattle.edit_script.specs.declared.action.Action.{Action}
use Rattle.edit_script.specs.declared.action.Action.TheVariants.{Change, SheetFile, Show, Undo, Redo, Enter}
use Rattle.edit_script.specs.declared.command.Command.{Command}
use Rattle.marker_cli.specs.declared.status.FileAt.{FileAt}
use Rattle.marker_cli.specs.declared.status.FileAt.TheVariants.{Word, Line}
use Rattle.marker_cli.specs.declared.status.Status.{Status}
use Rattle.marker_cli.specs.declared.status.Status.TheVariants as status
use Rattle.marker_cli.specs.Words.{word}

-- the file that a command names
abbrev pub file_of : Action → List ℕ
file_of (Change edit) = []
file_of (SheetFile name) = name
file_of Show = []
file_of Undo = []
file_of Redo = []
file_of (Enter name) = []

-- the file that the line of this number names
abbrev pub sheet_name : List Command → ℕ → List ℕ
sheet_name [] number = []
sheet_name (command ∷ commands) number = if command.line == number then file_of command.action else sheet_name commands number

-- the name of a file as the words have it, or the commands of the script
abbrev pub name_at : List (List ℕ) → List Command → FileAt → List ℕ
name_at words commands (Word place) = word words place
name_at words commands (Line number) = sheet_name commands number

abbrev pub IsOfLine : FileAt → Type 0
IsOfLine (Word place) = ⊥
IsOfLine (Line number) = Unit {0}

-- the status is about a file that a line of the script names
abbrev pub TellsOfLine : Status → Type 0
TellsOfLine status.Ok = ⊥
TellsOfLine status.Memory = ⊥
TellsOfLine status.Usage = ⊥
TellsOfLine (status.ReadFault file) = IsOfLine file
TellsOfLine (status.TooLarge file) = IsOfLine file
TellsOfLine (status.NotUtf8 file offset) = IsOfLine file
TellsOfLine (status.BadDocument line column) = ⊥
TellsOfLine (status.BadScript number) = ⊥
TellsOfLine status.WriteFault = ⊥
TellsOfLine (status.LeftOut count) = ⊥
TellsOfLine (status.BadPart file line column) = IsOfLine file
