use Rattle.std.specs.Str.{chars}
use Rattle.std.proofs.lemmas.Result.{IfErr-weaker, IfOk-weaker}
use Rattle.edit_script.specs.Machinery.LineFaults.{IsLineFault}
use Rattle.edit_script.specs.Machinery.Operands.{AreOperands}
use Rattle.edit_script.specs.Scripts.{IsEditCommand}
use Rattle.edit_script.proofs.CommandLaws.{command_operands, found_command, no_keyword}
use Rattle.edit_script.proofs.FaultLaws.{fault_of_whole}
use Rattle.edit_script.proofs.script.read_edit_action.Goals as goal

pub returns-in_default-clause-fault : goal.returns-in_default-clause-fault
returns-in_default-clause-fault c = no_keyword (chars c.args.line.now) c.in_default.ensures.reads

pub returns-clause-found : goal.returns-clause-found
returns-clause-found c =
    IfOk-weaker c.read_operands.result (AreOperands c.in-Some.keyword (chars c.in-Some.operands.now)) (IsEditCommand (chars c.args.line.now))
    (λ action are. found_command (chars c.args.line.now) (chars c.in-Some.operands.now) c.in-Some.keyword action c.in-Some.ensures.reads are) c.read_operands.ensures.found

pub returns-clause-fault : goal.returns-clause-fault
returns-clause-fault c =
    IfErr-weaker c.read_operands.result (IsLineFault (AreOperands c.in-Some.keyword (chars c.in-Some.operands.now))) (IsLineFault (IsEditCommand (chars c.args.line.now)))
    (λ fault none.
    fault_of_whole (AreOperands c.in-Some.keyword (chars c.in-Some.operands.now)) (IsEditCommand (chars c.args.line.now)) fault
    (λ action is. (action, command_operands (chars c.args.line.now) (chars c.in-Some.operands.now) c.in-Some.keyword action c.in-Some.ensures.reads is)) none)
    c.read_operands.ensures.fault
