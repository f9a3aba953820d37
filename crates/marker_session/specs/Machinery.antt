-- What the contracts of private functions say: the commands of a line, and faults of the layers below as those of a line.
-- No promise of a session rests on these.
use Rattle.std.specs.Prelude.{◌≡◌, ◌≢◌, ℕ, List, [], ◌∷◌, Err}
use Rattle.dirty_walk.specs.Books.{StyledDocument}
use Rattle.edit_script.specs.Scripts.{command}
use Rattle.edit_script.specs.declared.action.Action.{Action}
use Rattle.edit_script.specs.declared.action.Action.TheVariants.{Change, Show}
use Rattle.edit_script.specs.declared.command.Command.{Command}
use Rattle.edit_script.specs.declared.fault.ScriptFault.{ScriptFault}
use Rattle.edit_script.specs.declared.fault.ScriptFault.TheVariants as script
use Rattle.marker_engine.specs.declared.edit_fault.EditFault.{EditFault}
use Rattle.marker_engine.specs.declared.edit_fault.EditFault.TheVariants as edits
use Rattle.marker_engine.specs.Edited.{edited}
use Rattle.marker_engine.specs.Engines.{source_of}
use Rattle.node_arena.specs.declared.place_fault.PlaceFault.TheVariants as place
use Rattle.plain_types.specs.declared.edit.Edit.{Edit}
use Rattle.marker_session.specs.declared.line_fault.LineFault.{LineFault}
use Rattle.marker_session.specs.declared.line_fault.LineFault.TheVariants.{BadLine, NotAnEdit, NoPlace, IntoItself, Memory}

abbrev pub fault_of_script : ScriptFault → LineFault
fault_of_script (script.BadLine number) = BadLine
fault_of_script script.Memory = Memory

abbrev pub fault_of_edit : EditFault → LineFault
fault_of_edit edits.NoPlace = NoPlace
fault_of_edit edits.IntoItself = IntoItself
fault_of_edit edits.Memory = Memory

-- there is one command, and it is this edit
abbrev pub IsOnlyEdit : List Command → Edit → Type 0
IsOnlyEdit commands edit = (number : ℕ) × (commands ≡ command number (Change edit) ∷ [])

-- the action is neither an edit nor `show`
pub record IsOther (action : Action) : Type 0 where
  pub no_edit : (edit : Edit) → action ≢ Change edit
  pub no_show : action ≢ Show

-- why these commands are no edit
abbrev pub IsNoEdit : List Command → LineFault → Type 0
IsNoEdit commands BadLine = (number : ℕ) (action : Action) → commands ≡ command number action ∷ [] → IsOther action
IsNoEdit commands NotAnEdit = (number : ℕ) × (commands ≡ command number Show ∷ [])
IsNoEdit commands NoPlace = ⊥
IsNoEdit commands IntoItself = ⊥
IsNoEdit commands Memory = ⊥

-- why an edit of a document is not done
abbrev pub IsEditFault : Edit → StyledDocument → EditFault → Type 0
IsEditFault edit styled edits.NoPlace = edited (source_of styled) edit ≡ Err place.NoPlace
IsEditFault edit styled edits.IntoItself = edited (source_of styled) edit ≡ Err place.IntoItself
IsEditFault edit styled edits.Memory = Unit {0}
