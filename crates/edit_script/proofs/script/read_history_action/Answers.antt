use Rattle.std.specs.Str.{chars}
use Rattle.std.proofs.lemmas.Result.{IfErr-weaker, IfOk-weaker}
use Rattle.edit_script.specs.Machinery.LineFaults.{IsLineFault}
use Rattle.edit_script.specs.Scripts.{IsEditCommand, IsHistoryCommand, edit_command}
use Rattle.edit_script.proofs.HistoryLaws.{fault_of_edit, redo_found, redo_no, undo_found, undo_no}
use Rattle.edit_script.proofs.script.read_history_action.Goals as goal

pub returns-in-undo-clause-found : goal.returns-in-undo-clause-found
returns-in-undo-clause-found c = undo_found c.args.line.now c.in-undo.is

pub returns-in-redo-clause-found : goal.returns-in-redo-clause-found
returns-in-redo-clause-found c = redo_found c.args.line.now c.in-redo.is

pub returns-in_default-clause-found : goal.returns-in_default-clause-found
returns-in_default-clause-found c =
    IfOk-weaker c.read_edit_action.result (IsEditCommand (chars c.args.line.now)) (IsHistoryCommand (chars c.args.line.now)) (λ action is. edit_command is)
    c.read_edit_action.ensures.found

pub returns-in_default-clause-fault : goal.returns-in_default-clause-fault
returns-in_default-clause-fault c =
    IfErr-weaker c.read_edit_action.result (IsLineFault (IsEditCommand (chars c.args.line.now))) (IsLineFault (IsHistoryCommand (chars c.args.line.now)))
    (λ fault none.
    fault_of_edit (chars c.args.line.now) fault (undo_no c.args.line.now c.utf8.line c.in_default.not-undo) (redo_no c.args.line.now c.utf8.line c.in_default.not-redo) none)
    c.read_edit_action.ensures.fault
