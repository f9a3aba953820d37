-- How many steps `edit`, `history` and `gen` take at most by the work of their edits (our own): one evaluation at the start, and
-- then what each call takes that their commands make, a number for each. Work is said of documents whose nodes have keys. So the
-- calls begin with some keys of the document that was read, and each edit leads from a document with keys to the next one: nodes
-- that stay keep their keys, and those that it puts in have new ones, whichever these are.
use Rattle.std.specs.Prelude.{◌≡◌, ◌⊎◌, ◌≤◌, ◌+◌, ℕ, List, [], ◌∷◌, Option, Some, None, Result, Ok, Err, sum}
use Rattle.dirty_walk.specs.WorkBounds.{IsWithinWork}
use Rattle.edit_inverses.specs.Versions.{IsSameVersion, Version}
use Rattle.edit_script.specs.declared.action.Action.{Action}
use Rattle.edit_script.specs.declared.action.Action.TheVariants.{Change, SheetFile, Show, Undo, Redo, Enter}
use Rattle.edit_script.specs.declared.command.Command.{Command}
use Rattle.edit_work.specs.KeyedSources.{KeyedSource}
use Rattle.edit_work.specs.Laws.{Leads}
use Rattle.forest.specs.Keys.{without_keys}
use Rattle.node_arena.specs.Document.{IsKeyedDocument}
use Rattle.node_arena.specs.Edits.{IsEdited, place_fault}
use Rattle.node_arena.specs.declared.place_fault.PlaceFault.{PlaceFault}
use Rattle.plain_types.specs.declared.edit.Edit.{Edit}
use Rattle.plain_types.specs.declared.edit.Edit.TheVariants.{ReplaceSheet}
use Rattle.ports.specs.Files.{Files}
use Rattle.marker_cli.specs.declared.status.FileAt.TheVariants.{Word, Line}
use Rattle.marker_cli.specs.declared.status.Status.{Status}
use Rattle.marker_cli.specs.Documents.{Reading, tree_of}
use Rattle.marker_cli.specs.Edit.{commands_of, kept_edits}
use Rattle.marker_cli.specs.EditSteps.{change_steps, show_steps, start_steps}
use Rattle.marker_cli.specs.Turns.{text_in}
use Rattle.marker_cli.specs.Versions.{Versions, begun, edited, redone, undone}

-- the version of a document whose nodes have keys
abbrev pub keyless : KeyedSource → Version
keyless source = record { document = without_keys source.tree; sheet = source.sheet }

-- What one call takes.

-- An edit takes no more than its work allows, 24 for each unit and 24 more, and no more than the sizes of both documents allow.
pub record IsWithinBounds (edit : Edit) (before after : KeyedSource) (steps : ℕ) : Type 0 where
  pub by_work : IsWithinWork edit before after 0 steps
  pub by_size : steps ≤ change_steps (keyless before) (keyless after)

-- an edit that is done
pub record IsApplied (edit : Edit) (before after : KeyedSource) (steps : ℕ) : Type 0 where
  pub leads : Leads edit before after
  pub bounds : IsWithinBounds edit before after steps

-- a step back or forth to a version: it is an edit, which leads there but for the order of attributes
pub record IsStepped (version : Version) (before after : KeyedSource) (steps : ℕ) : Type 0 where
  pub edit : Edit
  pub keyed : IsKeyedDocument after.tree
  pub edited : IsEdited edit before.tree after.tree
  pub leads : IsSameVersion (keyless after) version
  pub bounds : IsWithinBounds edit before after steps

-- What the calls take that one command makes and those behind it.

-- a call takes so many steps, and the later ones take the rest; or the run ended before it
abbrev pub CallTakes : (ℕ → List ℕ → Type 0) → List ℕ → Type 0
CallTakes Next [] = Unit {0}
CallTakes Next (steps ∷ rest) = Next steps rest

-- An edit that has its place leads to a document with keys, from which the next calls go on; one that is refused takes no step,
-- and all stays.
abbrev pub EditTakes : Option PlaceFault → Edit → KeyedSource → (List ℕ → Type 0) → (KeyedSource → List ℕ → Type 0) → List ℕ → Type 0
EditTakes None edit source Stays Next = CallTakes (λ steps rest. (after : KeyedSource) × IsApplied edit source after steps × Next after rest)
EditTakes (Some fault) edit source Stays Next = Stays

-- a step back or forth, which leads to these versions if to any
abbrev pub StepTakes : Option Versions → Versions → KeyedSource → (Versions → KeyedSource → List ℕ → Type 0) → List ℕ → Type 0
StepTakes (Some led) versions source Next =
    CallTakes (λ steps rest. (after : KeyedSource) × IsStepped led.present source after steps × Next led after rest)
StepTakes None versions source Next = Next versions source

-- a dump, or a count of its lines
abbrev pub ShowTakes : KeyedSource → (List ℕ → Type 0) → List ℕ → Type 0
ShowTakes source Next = CallTakes (λ steps rest. (steps ≤ show_steps (keyless source)) × Next rest)

-- with a value the run goes on, and with a status it ends
abbrev pub TakenWith : {A : Type 0} → Result A Status → (A → List ℕ → Type 0) → List ℕ → Type 0
TakenWith (Ok value) Next taken = Next value taken
TakenWith (Err status) Next taken = taken ≡ []

-- one command, where so many edits can be undone, and what comes next
abbrev pub ActionTakes : Files → ℕ → ℕ → Action → Versions → KeyedSource → (Versions → KeyedSource → List ℕ → Type 0) → List ℕ → Type 0
ActionTakes files depth number (Change edit) versions source Next =
    EditTakes (place_fault edit (without_keys source.tree)) edit source (Next versions source) (Next (edited depth edit versions))
ActionTakes files depth number (SheetFile name) versions source Next =
    TakenWith (text_in (Line number) (files name)) (λ text. EditTakes None (ReplaceSheet text) source (Next versions source) (Next (edited depth (ReplaceSheet text) versions)))
ActionTakes files depth number Show versions source Next = ShowTakes source (Next versions source)
ActionTakes files depth number Undo versions source Next = StepTakes (undone versions) versions source Next
ActionTakes files depth number Redo versions source Next = StepTakes (redone versions) versions source Next
ActionTakes files depth number (Enter name) versions source Next = Next versions source

-- all commands, in their order, from a document with keys on
abbrev pub ScriptTakes : Files → ℕ → List Command → Versions → KeyedSource → List ℕ → Type 0
ScriptTakes files depth [] versions source taken = taken ≡ []
ScriptTakes files depth (command ∷ commands) versions source taken =
    ActionTakes files depth command.line command.action versions source (ScriptTakes files depth commands) taken

-- the edits of a run that is made up, and at its end one look at each element
abbrev pub EditsTake : List Edit → KeyedSource → List ℕ → Type 0
EditsTake [] source taken = ShowTakes source (λ rest. rest ≡ []) taken
EditsTake (edit ∷ edits) source taken = EditTakes (place_fault edit (without_keys source.tree)) edit source (EditsTake edits source) (EditsTake edits) taken

-- What a whole run takes.

-- from some keys of this version on, the calls take so many steps, and all of them are beside those of the start
pub record TakesCalls (version : Version) (Take : KeyedSource → List ℕ → Type 0) (old new : ℕ) : Type 0 where
  pub source : KeyedSource
  pub keyed : IsKeyedDocument source.tree
  pub version_is : keyless source ≡ version
  pub taken : List ℕ
  pub takes : Take source taken
  pub all : new ≤ old + (start_steps version.document + sum taken)

-- the version is evaluated, and then come the calls; or the run ended with its start
abbrev pub IsWithinCalls : Version → (KeyedSource → List ℕ → Type 0) → (old new : ℕ) → Type 0
IsWithinCalls version Take old new = (new ≤ old + start_steps version.document) ⊎ TakesCalls version Take old new

-- this holds of a value, and with a status no step was taken
abbrev pub WithinWith : {A : Type 0} → Result A Status → (old new : ℕ) → (A → Type 0) → Type 0
WithinWith (Ok value) old new Holds = Holds value
WithinWith (Err status) old new Holds = new ≤ old

-- `edit DOC SHEET SCRIPT`, or with a depth `history DOC SHEET SCRIPT DEPTH`, where DOC and SCRIPT read so
abbrev pub IsScriptWithinWork : Files → (document sheet script : List ℕ) → Option ℕ → Reading → Result (List Command) ℕ → (old new : ℕ) → Type 0
IsScriptWithinWork files document sheet script depth reading script_reading old new =
    WithinWith (text_in (Word 1) (files document)) old new (λ text.
    WithinWith (text_in (Word 2) (files sheet)) old new (λ style.
    WithinWith (text_in (Word 3) (files script)) old new (λ lines.
    WithinWith (tree_of reading) old new (λ tree.
    WithinWith (commands_of script_reading) old new (λ commands.
    let version : Version = record { document = tree; sheet = style } in
    IsWithinCalls version (ScriptTakes files (kept_edits depth) commands (begun version)) old new)))))
