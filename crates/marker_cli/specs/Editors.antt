-- What an editor stands for, and what its calls answer (our own).
use Rattle.std.specs.Prelude.{◌≡◌, ◌↔◌, ℕ, Option, None, Result, Err, OnOk, OnErr, IfErr, IfSome, IsSomeAnd}
use Rattle.dirty_walk.specs.Books.{keyed_source}
use Rattle.edit_inverses.specs.Versions.{AreSameVersions, IsSameVersion}
use Rattle.edit_work.specs.KeyedSources.{KeyedSource}
use Rattle.marker_engine.specs.Edited.{edit_fault}
use Rattle.marker_engine.specs.declared.edit_fault.EditFault.{EditFault}
use Rattle.marker_engine.specs.declared.edit_fault.EditFault.TheVariants as edit_faults
use Rattle.node_arena.specs.Edits.{place_fault}
use Rattle.plain_types.specs.declared.edit.Edit.{Edit}
use Rattle.undo_ring.specs.Histories.{future, past, present, version_of}
use Rattle.undo_ring.specs.declared.undo_fault.UndoFault.{UndoFault}
use Rattle.undo_ring.specs.declared.undo_fault.UndoFault.TheVariants as undo_faults
use Rattle.marker_cli.specs.declared.editor.Editor.{Editor}
use Rattle.marker_cli.specs.declared.editor.Editor.TheVariants.{Plain, Versioned}
use Rattle.marker_cli.specs.Versions.{Versions, begun, edited}

-- the versions that an editor has
abbrev pub versions_of : Editor → Versions
versions_of (Plain engine) = begun (version_of engine)
versions_of (Versioned history) = record { present = present history; past = past history; future = future history }

-- its document, whose nodes have keys, and the sheet
abbrev pub document_of : Editor → KeyedSource
document_of (Plain engine) = keyed_source engine
document_of (Versioned history) = keyed_source history.book

-- how many of its edits can be undone at most
abbrev pub depth_of : Editor → ℕ
depth_of (Plain engine) = 0
depth_of (Versioned history) = history.depth

-- the versions are the same one by one, but for the order of attributes
pub record AreSameHistories (versions other : Versions) : Type 0 where
  pub present : IsSameVersion versions.present other.present
  pub past : AreSameVersions versions.past other.past
  pub future : AreSameVersions versions.future other.future

-- what comes next is no other for versions that are the same
abbrev pub TellsNoneApart : {A : Type 0} → (Versions → A) → Type 0
TellsNoneApart next = (versions other : Versions) → AreSameHistories versions other → next versions ≡ next other

-- what an editor answers to an edit, and the versions that it has then
pub record AnswersEdit (outcome : Result (Unit {0}) EditFault) (depth : ℕ) (edit : Edit) (versions left : Versions) : Type 0 where
  pub place : OnOk outcome (place_fault edit versions.present.document ≡ None)
  pub done : OnOk outcome (AreSameHistories left (edited depth edit versions))
  pub refused : IfSome (place_fault edit versions.present.document) (λ fault. outcome ≡ Err (edit_fault fault))
  pub memory : place_fault edit versions.present.document ≡ None → IfErr outcome (λ fault. fault ≡ edit_faults.Memory)
  pub stays : OnErr outcome (left ≡ versions)

-- what an editor answers to a step back or forth, which leads to these versions if to any
pub record AnswersStep (outcome : Result (Unit {0}) UndoFault) (versions left : Versions) (step : Option Versions) : Type 0 where
  pub done : OnOk outcome (IsSomeAnd step (λ led. AreSameHistories left led))
  pub nothing : (outcome ≡ Err undo_faults.Nothing) ↔ (step ≡ None)
  pub stays : OnErr outcome (left ≡ versions)
