-- How many steps the commands `edit DOC SHEET SCRIPT` and `history DOC SHEET SCRIPT DEPTH` take at most (our own): one
-- evaluation at the start, and then of each command that is done what its one call takes.
use Rattle.std.specs.Prelude.{ℕ, ◌+◌, ◌*◌, List, [], ◌∷◌, Option, Some, None, Result, Ok, Err, unwrap_or}
use Rattle.document_walk.specs.Elements.{element_count}
use Rattle.edit_inverses.specs.Versions.{Version, version_after}
use Rattle.edit_script.specs.declared.action.Action.{Action}
use Rattle.edit_script.specs.declared.action.Action.TheVariants.{Change, SheetFile, Show, Undo, Redo, Enter}
use Rattle.edit_script.specs.declared.command.Command.{Command}
use Rattle.forest.specs.Forest.{Forest}
use Rattle.node_arena.specs.Edits.{place_fault}
use Rattle.node_arena.specs.declared.place_fault.PlaceFault.{PlaceFault}
use Rattle.plain_types.specs.declared.edit.Edit.{Edit}
use Rattle.plain_types.specs.declared.edit.Edit.TheVariants.{ReplaceSheet}
use Rattle.plain_types.specs.declared.node.Node.{Node}
use Rattle.ports.specs.Files.{Files}
use Rattle.marker_cli.specs.declared.status.FileAt.TheVariants.{Word, Line}
use Rattle.marker_cli.specs.declared.status.Status.{Status}
use Rattle.marker_cli.specs.Documents.{Reading, tree_of}
use Rattle.marker_cli.specs.Edit.{commands_of, kept_edits}
use Rattle.marker_cli.specs.Turns.{text_in}
use Rattle.marker_cli.specs.Versions.{Versions, begun, edited, redone, undone}

-- What one call takes.

-- of each element an evaluation takes three steps in each of its two walks, and its entry is kept
abbrev pub start_steps : Forest Node → ℕ
start_steps document = 7 * element_count document

-- what is kept of each element is looked up once, to be shown or to be counted
abbrev pub show_steps : Version → ℕ
show_steps version = element_count version.document

-- from one version to the one that an edit makes of it
abbrev pub change_steps : Version → Version → ℕ
change_steps version changed = 12 * element_count changed.document + 2 * element_count version.document

-- an edit that has its place, and one that is refused
abbrev pub placed_steps : Version → Edit → Option PlaceFault → ℕ
placed_steps version edit None = change_steps version (version_after edit version)
placed_steps version edit (Some fault) = 0

-- one edit of a version
abbrev pub edit_steps : Version → Edit → ℕ
edit_steps version edit = placed_steps version edit (place_fault edit version.document)

-- one step back or forth, which leads to these versions if to any
abbrev pub led_steps : Version → Option Versions → ℕ
led_steps version (Some led) = change_steps version led.present
led_steps version None = 0

-- What the commands take, by the versions that they go through.

-- the versions that an edit leaves, done or refused
abbrev pub left_by_edit : ℕ → Edit → Versions → Option PlaceFault → Versions
left_by_edit depth edit versions None = edited depth edit versions
left_by_edit depth edit versions (Some fault) = versions

-- with a value the run goes on, and with a status it ends
abbrev pub steps_with : {A : Type 0} → Result A Status → (A → ℕ) → ℕ
steps_with (Ok value) next = next value
steps_with (Err status) next = 0

-- one command, where so many edits can be undone, and what comes next
abbrev pub action_steps : Files → ℕ → ℕ → Action → Versions → (Versions → ℕ) → ℕ
action_steps files depth number (Change edit) versions next =
    edit_steps versions.present edit + next (left_by_edit depth edit versions (place_fault edit versions.present.document))
action_steps files depth number (SheetFile name) versions next =
    steps_with (text_in (Line number) (files name)) (λ text. edit_steps versions.present (ReplaceSheet text) + next (edited depth (ReplaceSheet text) versions))
action_steps files depth number Show versions next = show_steps versions.present + next versions
action_steps files depth number Undo versions next = led_steps versions.present (undone versions) + next (unwrap_or (undone versions) versions)
action_steps files depth number Redo versions next = led_steps versions.present (redone versions) + next (unwrap_or (redone versions) versions)
action_steps files depth number (Enter name) versions next = next versions

-- all of them, in their order
abbrev pub script_steps : Files → ℕ → List Command → Versions → ℕ
script_steps files depth [] versions = 0
script_steps files depth (command ∷ commands) versions = action_steps files depth command.line command.action versions (script_steps files depth commands)

-- the whole run, where DOC and SCRIPT read so
abbrev pub most_edit_steps : Files → (document sheet script : List ℕ) → Option ℕ → Reading → Result (List Command) ℕ → ℕ
most_edit_steps files document sheet script depth reading script_reading =
    steps_with (text_in (Word 1) (files document)) (λ text.
    steps_with (text_in (Word 2) (files sheet)) (λ style.
    steps_with (text_in (Word 3) (files script)) (λ lines.
    steps_with (tree_of reading) (λ tree.
    steps_with (commands_of script_reading) (λ commands.
    start_steps tree + script_steps files (kept_edits depth) commands (begun (record { document = tree; sheet = style })))))))
