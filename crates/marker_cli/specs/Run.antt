-- A run, from its words and files to its output (our own).
use Rattle.std.specs.Prelude.{◌≡◌, ◌⊎◌, ℕ, ℤ, ◌+◌, List, [], ◌∷◌, length, map, sum, Option, Some, None, Result, Ok, Err}
use Rattle.std.specs.Option.{option_map_or}
use Rattle.edit_script.specs.declared.action.Action.{Action}
use Rattle.edit_script.specs.declared.action.Action.TheVariants.{Change, SheetFile, Show, Undo, Redo, Enter}
use Rattle.edit_script.specs.declared.command.Command.{Command}
use Rattle.ports.specs.Files.{Files}
use Rattle.marker_cli.specs.declared.status.FileAt.{FileAt}
use Rattle.marker_cli.specs.declared.status.Status.TheVariants.{Usage}
use Rattle.marker_cli.specs.Aspects.{aspect_output, most_steps}
use Rattle.marker_cli.specs.Bake.{BakesTo, bake_output, most_bake_steps}
use Rattle.marker_cli.specs.Book.{BookScriptReadsAs, book_output}
use Rattle.marker_cli.specs.BookSteps.{most_book_steps}
use Rattle.marker_cli.specs.BookWork.{IsBookWithinWork}
use Rattle.marker_cli.specs.Documents.{DocumentReadsAs, Reading}
use Rattle.marker_cli.specs.Edit.{ScriptReadsAs, edit_output, kind_of}
use Rattle.marker_cli.specs.EditSteps.{most_edit_steps}
use Rattle.marker_cli.specs.Generated.{IsGeneratedWithinWork, generated_output, most_generated_steps}
use Rattle.marker_cli.specs.Names.{name_at}
use Rattle.marker_cli.specs.Output.{ComesAfter, Output, ends}
use Rattle.marker_cli.specs.Parts.{PartsReadAs}
use Rattle.marker_cli.specs.Table.{table_output}
use Rattle.marker_cli.specs.WorkSteps.{IsScriptWithinWork}
use Rattle.marker_cli.specs.Words.{Form, IsForm, ReadsAsForm, aspect, bake, book, edit, gen, table}

-- what the words and the texts of a run read as, the documents of a book one by one, and the text that DOC bakes to
pub record Readings : Type 0 where
  pub form : Option Form
  pub document : Reading
  pub parts : List Reading
  pub script : Result (List Command) ℕ
  pub baked : List ℕ

-- DOC and SCRIPT of words of this form read so, as far as it has them, and where they ask for it DOC bakes to this text
abbrev pub TextsReadAs : Files → Readings → Option Form → Type 0
TextsReadAs files readings None = Unit {0}
TextsReadAs files readings (Some (aspect what doc sheet)) = DocumentReadsAs files doc sheet readings.document
TextsReadAs files readings (Some (bake doc sheet)) = DocumentReadsAs files doc sheet readings.document × BakesTo files doc sheet readings.document readings.baked
TextsReadAs files readings (Some (edit doc sheet commands depth)) =
    DocumentReadsAs files doc sheet readings.document × ScriptReadsAs files doc sheet commands (kind_of depth) readings.script
TextsReadAs files readings (Some (book sheet commands documents)) =
    PartsReadAs files sheet commands documents readings.parts × BookScriptReadsAs files sheet commands documents readings.script
TextsReadAs files readings (Some (table sheet style from to)) = Unit {0}
TextsReadAs files readings (Some (gen seed count)) = Unit {0}

-- Over a shelf that tells its files, this holds of what the texts of this form read as.
abbrev pub OverTexts : Option Files → Form → (Files → Readings → Type 0) → Type 0
OverTexts held form Holds = (files : Files) (readings : Readings) → held ≡ Some files → TextsReadAs files readings (Some form) → Holds files readings

-- They do read so. Of files this is asked only where they have texts, as well as those that are read before them.
pub record AreReadings (words : List (List ℕ)) (files : Files) (readings : Readings) : Type 0 where
  pub form : ReadsAsForm words readings.form
  pub texts : TextsReadAs files readings readings.form

-- Over a shelf that tells its files, this holds of what the words and the texts of these files read as.
abbrev pub OverTold : Option Files → List (List ℕ) → (Files → Readings → Type 0) → Type 0
OverTold held words Holds = (files : Files) (readings : Readings) → held ≡ Some files → AreReadings words files readings → Holds files readings

-- the output of words of this form whose texts read so
abbrev pub form_output : Files → Readings → Option Form → Output
form_output files readings None = ends Usage
form_output files readings (Some (aspect what doc sheet)) = aspect_output files what doc sheet readings.document
form_output files readings (Some (bake doc sheet)) = bake_output files doc sheet readings.document readings.baked
form_output files readings (Some (edit doc sheet commands depth)) = edit_output files doc sheet commands depth readings.document readings.script
form_output files readings (Some (book sheet commands documents)) = book_output files sheet commands documents readings.parts readings.script
form_output files readings (Some (table sheet style from to)) = table_output files sheet style from to
form_output files readings (Some (gen seed count)) = generated_output seed count

-- the output over these files of words and texts that read so
unfoldable pub output : Files → Readings → Output
output files readings = form_output files readings readings.form

-- the turn of this file comes in a run with this output
abbrev pub HasTurn : Output → FileAt → Type 0
HasTurn output file = (written : List ℕ) × ComesAfter output file written

-- the commands of a script; of one that is bad there are none
abbrev pub commands_in : Result (List Command) ℕ → List Command
commands_in (Ok commands) = commands
commands_in (Err number) = []

-- the name of a file of a run whose texts read so
abbrev pub name_in : List (List ℕ) → Readings → FileAt → List ℕ
name_in words readings file = name_at words (commands_in readings.script) file

-- the words are of a form that evaluates nothing, or of none
abbrev pub TakesNoStep : List (List ℕ) → Type 0
TakesNoStep words = ReadsAsForm words None ⊎ ((sheet style : List ℕ) × (from to : ℤ) × IsForm words (table sheet style from to))

-- How many bytes a run that is done to its end takes from its files: the whole of each, as often as a word or a command
-- names it.

abbrev pub size_of : Files → List ℕ → ℕ
size_of files name = option_map_or length (files name) 0

abbrev pub action_size : Files → Action → ℕ
action_size files (Change change) = 0
action_size files (SheetFile name) = size_of files name
action_size files Show = 0
action_size files Undo = 0
action_size files Redo = 0
action_size files (Enter name) = 0

abbrev pub commands_size : Files → List Command → ℕ
commands_size files [] = 0
commands_size files (command ∷ commands) = action_size files command.action + commands_size files commands

abbrev pub form_size : Files → Result (List Command) ℕ → Option Form → ℕ
form_size files script None = 0
form_size files script (Some (aspect what doc sheet)) = size_of files doc + size_of files sheet
form_size files script (Some (bake doc sheet)) = size_of files doc + size_of files sheet
form_size files script (Some (edit doc sheet commands depth)) = size_of files doc + (size_of files sheet + (size_of files commands + commands_size files (commands_in script)))
form_size files script (Some (book sheet commands documents)) =
    size_of files sheet + (size_of files commands + (sum (map (size_of files) documents) + commands_size files (commands_in script)))
form_size files script (Some (table sheet style from to)) = size_of files sheet
form_size files script (Some (gen seed count)) = 0

abbrev pub read_size : Files → Readings → ℕ
read_size files readings = form_size files readings.script readings.form

-- How many steps a run takes at most.

abbrev pub form_steps : Files → Readings → Option Form → ℕ
form_steps files readings None = 0
form_steps files readings (Some (aspect what doc sheet)) = most_steps readings.document
form_steps files readings (Some (bake doc sheet)) = most_bake_steps readings.document
form_steps files readings (Some (edit doc sheet commands depth)) = most_edit_steps files doc sheet commands depth readings.document readings.script
form_steps files readings (Some (book sheet commands documents)) = most_book_steps files sheet commands documents readings.parts readings.script
form_steps files readings (Some (table sheet style from to)) = 0
form_steps files readings (Some (gen seed count)) = most_generated_steps seed count

abbrev pub most_run_steps : Files → Readings → ℕ
most_run_steps files readings = form_steps files readings readings.form

-- The same by the work of edits, where the words are of a form that makes some. Of the others this says nothing more.
abbrev pub IsFormWithinWork : Files → Readings → Option Form → (old new : ℕ) → Type 0
IsFormWithinWork files readings (Some (edit doc sheet commands depth)) old new =
    IsScriptWithinWork files doc sheet commands depth readings.document readings.script old new
IsFormWithinWork files readings (Some (book sheet commands documents)) old new = IsBookWithinWork files sheet commands documents readings.parts readings.script old new
IsFormWithinWork files readings (Some (gen seed count)) old new = IsGeneratedWithinWork seed count old new
IsFormWithinWork files readings _ old new = Unit {0}

abbrev pub IsRunWithinWork : Files → Readings → (old new : ℕ) → Type 0
IsRunWithinWork files readings old new = IsFormWithinWork files readings readings.form old new
