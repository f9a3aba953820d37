-- Lines that are applied to a document (our own).
use Rattle.std.specs.Prelude.{◌≡◌, ◌≤◌, ◌⊎◌, ◌+◌, ◌*◌, ℕ, List, [], ◌∷◌, Err, IfOk, length}
use Rattle.changed_lines.specs.Changes.{changed_lines}
use Rattle.dirty_walk.specs.Books.{StyledDocument, keyed_source}
use Rattle.dirty_walk.specs.WorkBounds.{IsWithinWork, StopsWithinWork}
use Rattle.document_walk.specs.Elements.{element_count}
use Rattle.edit_script.specs.Scripts.{IsScript, command}
use Rattle.edit_script.specs.declared.action.Action.{Action}
use Rattle.edit_script.specs.declared.action.Action.TheVariants.{Change, Show}
use Rattle.edit_script.specs.declared.script_kind.ScriptKind.TheVariants.{Edits}
use Rattle.marker_engine.specs.Edited.{edited}
use Rattle.marker_engine.specs.Engines.{source_of}
use Rattle.node_arena.specs.declared.place_fault.PlaceFault.{PlaceFault}
use Rattle.node_arena.specs.declared.place_fault.PlaceFault.TheVariants as place
use Rattle.plain_types.specs.declared.edit.Edit.{Edit}
use Rattle.marker_session.specs.declared.line_fault.LineFault.{LineFault}
use Rattle.marker_session.specs.declared.line_fault.LineFault.TheVariants.{BadLine, NotAnEdit, NoPlace, IntoItself, Memory}
use Rattle.marker_session.specs.Sessions.{Does}

-- the text is a script of edits with one command, and this is its action
pub record IsLine (text : List ℕ) (action : Action) : Type 0 where
  pub number : ℕ
  pub script : IsScript Edits text (command number action ∷ [])

-- the line is an edit, and makes the one document of the other
pub record DoesLine (text : List ℕ) (old new : StyledDocument) : Type 0 where
  pub edit : Edit
  pub line : IsLine text (Change edit)
  pub done : Does edit old new

-- between these numbers of steps are no more than the work of the edit of the line allows
pub record IsLineWithinWork (text : List ℕ) (old new : StyledDocument) (before after : ℕ) : Type 0 where
  pub edit : Edit
  pub line : IsLine text (Change edit)
  pub within : IsWithinWork edit (keyed_source old) (keyed_source new) before after

-- between these numbers of steps are no more than so many an element of either document, and one for each line that is changed
abbrev pub PaysForChangedLines : (old new : StyledDocument) → (before after : ℕ) → Type 0
PaysForChangedLines old new before after =
    after ≤ before + ((12 * element_count (source_of new).tree + 2 * element_count (source_of old).tree) + length (changed_lines (keyed_source old) (keyed_source new)))

-- Between these numbers of steps are no more than an edit takes that is not done: its work allows them, and they are so many an
-- element of the document, and of the one that the edit would have made of it.
pub record StopsOnEdit (edit : Edit) (old : StyledDocument) (before after : ℕ) : Type 0 where
  pub within_work : StopsWithinWork edit (keyed_source old) before after
  pub most : IfOk (edited (source_of old) edit) (λ source. after ≤ before + (13 * element_count source.tree + 2 * element_count (source_of old).tree))

-- after a line that was not applied: no step was taken; or it is an edit, and no more than that takes
abbrev pub StopsOnLine : List ℕ → StyledDocument → (before after : ℕ) → Type 0
StopsOnLine text old before after = (after ≡ before) ⊎ ((edit : Edit) × IsLine text (Change edit) × StopsOnEdit edit old before after)

-- the line is neither an edit nor `show`
pub record IsBadLine (text : List ℕ) : Type 0 where
  pub no_edit : (edit : Edit) → IsLine text (Change edit) → ⊥
  pub no_show : IsLine text Show → ⊥

-- the line is an edit that the document refuses so
pub record IsRefused (text : List ℕ) (styled : StyledDocument) (fault : PlaceFault) : Type 0 where
  pub edit : Edit
  pub line : IsLine text (Change edit)
  pub refused : edited (source_of styled) edit ≡ Err fault

-- why a line is not applied to a document; of memory nothing is said
abbrev pub IsLineFault : List ℕ → StyledDocument → LineFault → Type 0
IsLineFault text styled BadLine = IsBadLine text
IsLineFault text styled NotAnEdit = IsLine text Show
IsLineFault text styled NoPlace = IsRefused text styled place.NoPlace
IsLineFault text styled IntoItself = IsRefused text styled place.IntoItself
IsLineFault text styled Memory = Unit {0}
