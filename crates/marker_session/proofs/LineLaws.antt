-- What a line is: a text reads as a script in one way.
use Rattle.std.proofs.Common.{◌≡◌, ℕ, List, [], ◌∷◌, refl, subst, sym}
use Rattle.std.specs.Prelude.{Result, Ok, Err, IfErr}
use Rattle.std.specs.Result.{IsErr, IsErrAnd}
use Rattle.dirty_walk.specs.Books.{StyledDocument}
use Rattle.edit_script.specs.Faults.{IsFault}
use Rattle.edit_script.specs.Scripts.{FailsAsScript, IsScript, ReadsAsScript, command}
use Rattle.edit_script.specs.declared.action.Action.{Action}
use Rattle.edit_script.specs.declared.action.Action.TheVariants.{Change, Show}
use Rattle.edit_script.specs.declared.command.Command.{Command}
use Rattle.edit_script.specs.declared.fault.ScriptFault.{ScriptFault}
use Rattle.edit_script.specs.declared.fault.ScriptFault.TheVariants as script
use Rattle.edit_script.specs.declared.script_kind.ScriptKind.{ScriptKind}
use Rattle.edit_script.specs.declared.script_kind.ScriptKind.TheVariants.{Edits}
use Rattle.marker_engine.specs.declared.edit_fault.EditFault.{EditFault}
use Rattle.marker_engine.specs.declared.edit_fault.EditFault.TheVariants as edits
use Rattle.plain_types.specs.declared.edit.Edit.{Edit}
use Rattle.marker_session.specs.Lines.{IsBadLine, IsLine, IsLineFault}
use Rattle.marker_session.specs.Machinery.{IsEditFault, IsNoEdit, IsOnlyEdit, fault_of_edit, fault_of_script}
use Rattle.marker_session.specs.declared.line_fault.LineFault.{LineFault}
use Rattle.marker_session.specs.declared.line_fault.LineFault.TheVariants.{BadLine, NotAnEdit, NoPlace, IntoItself, Memory}

-- the law of scripts
abbrev pub OneReading : Type 0
OneReading = (kind : ScriptKind) (text : List ℕ) (reading other : Result (List Command) ℕ) → ReadsAsScript kind text reading → ReadsAsScript kind text other → reading ≡ other

-- a text with a bad line is no line
pub failing_is_bad : OneReading → (text : List ℕ) (number : ℕ) → FailsAsScript Edits text number → IsBadLine text
failing_is_bad law text number fails = record {
  no_edit = λ edit line. cc (law Edits text (Ok (command line.number (Change edit) ∷ [])) (Err number) line.script fails);
  no_show = λ line. cc (law Edits text (Ok (command line.number Show ∷ [])) (Err number) line.script fails);
}

-- so is one whose commands are no edit
pub other_is_bad : OneReading → (text : List ℕ) (commands : List Command) → IsScript Edits text commands → IsNoEdit commands BadLine → IsBadLine text
other_is_bad law text commands script none = record {
  no_edit = λ edit line. (none line.number (Change edit) (same line.number (Change edit) line.script)).no_edit edit refl;
  no_show = λ line. (none line.number Show (same line.number Show line.script)).no_show refl;
}
  where
    same : (number : ℕ) (action : Action) → IsScript Edits text (command number action ∷ []) → commands ≡ command number action ∷ []
    same number action is = cc (law Edits text (Ok commands) (Ok (command number action ∷ [])) script is)

-- the fault of a script that was not read
pub unread : OneReading → (text : List ℕ) (styled : StyledDocument) (fault : ScriptFault) → IsFault (FailsAsScript Edits text) fault → IsLineFault text styled (fault_of_script fault)
unread law text styled (script.BadLine number) fails = failing_is_bad law text number fails
unread law text styled script.Memory fails = tt

-- the fault of commands that are no edit
pub no_edit : OneReading → (text : List ℕ) (styled : StyledDocument) (commands : List Command) → IsScript Edits text commands
    → (fault : LineFault) → IsNoEdit commands fault → IsLineFault text styled fault
no_edit law text styled commands script BadLine none = other_is_bad law text commands script none
no_edit law text styled commands script NotAnEdit shows = record { number = shows.0; script = subst (IsScript Edits text) shows.1 script }
no_edit law text styled commands script NoPlace none = absurd none
no_edit law text styled commands script IntoItself none = absurd none
no_edit law text styled commands script Memory none = absurd none

-- the line of commands that are one edit
pub edit_line : (text : List ℕ) (commands : List Command) (edit : Edit) → IsScript Edits text commands → IsOnlyEdit commands edit → IsLine text (Change edit)
edit_line text commands edit script only = record { number = only.0; script = subst (IsScript Edits text) only.1 script }

-- the fault of an edit that was not done
pub undone : (text : List ℕ) (styled : StyledDocument) (edit : Edit) → IsLine text (Change edit) → (fault : EditFault) → IsEditFault edit styled fault
    → IsLineFault text styled (fault_of_edit fault)
undone text styled edit line edits.NoPlace is = record { edit = edit; line = line; refused = is }
undone text styled edit line edits.IntoItself is = record { edit = edit; line = line; refused = is }
undone text styled edit line edits.Memory is = tt

-- the fault that a `?` hands on
pub handed_on : {T : Type 0} (text : List ℕ) (styled : StyledDocument) (result : Result T LineFault) (fault : LineFault)
    → IsErr result × IsErrAnd result (λ error. error ≡ fault) → IsLineFault text styled fault → IfErr result (IsLineFault text styled)
handed_on text styled (Ok x) fault is caused = absurd is.1
handed_on text styled (Err error) fault is caused = subst (IsLineFault text styled) (sym is.1) caused
