use Rattle.std.specs.Str.{chars}
use Rattle.edit_script.specs.Machinery.Operands.{AreOperands}
use Rattle.edit_script.specs.Machinery.Words.{AreParts, IsPositionText}
use Rattle.edit_script.specs.Scripts.{IsPathText}
use Rattle.edit_script.specs.declared.keyword.Keyword.TheVariants.{Move}
use Rattle.edit_script.proofs.FaultLaws.{stopped}
use Rattle.edit_script.proofs.OperandLaws.{move_from, move_index, move_is, move_parent, move_rest, move_split}
use Rattle.edit_script.proofs.operands.read_move.Goals as goal

pub returns-in_err-from-clause-fault : goal.returns-in_err-from-clause-fault
returns-in_err-from-clause-fault c =
    stopped (AreParts (chars c.args.operands.now)) (AreOperands Move (chars c.args.operands.now)) c.from_residual.result c.in_err-from.field-0.0 c.from_residual.ensures
    c.in_err-from.ensures.fault (move_split (chars c.args.operands.now))

pub returns-in_err-parent-clause-fault : goal.returns-in_err-parent-clause-fault
returns-in_err-parent-clause-fault c =
    stopped (AreParts (chars c.in_ok-from.rest.now)) (AreOperands Move (chars c.args.operands.now)) c.from_residual-in_err-parent.result c.in_err-parent.field-0.0 c.from_residual-in_err-parent.ensures
    c.in_err-parent.ensures.fault (move_rest (chars c.args.operands.now) (chars c.in_ok-from.from.now) (chars c.in_ok-from.rest.now) c.in_ok-from.ensures.found)

pub returns-in_err-from-2-clause-fault : goal.returns-in_err-from-2-clause-fault
returns-in_err-from-2-clause-fault c =
    stopped (IsPathText (chars c.in_ok-from.from.now)) (AreOperands Move (chars c.args.operands.now)) c.from_residual-in_err-from-2.result c.in_err-from-2.field-0.0 c.from_residual-in_err-from-2.ensures
    c.in_err-from-2.ensures.fault (move_from (chars c.args.operands.now) (chars c.in_ok-from.from.now) (chars c.in_ok-from.rest.now) c.in_ok-from.ensures.found)

pub returns-in_err-parent-2-clause-fault : goal.returns-in_err-parent-2-clause-fault
returns-in_err-parent-2-clause-fault c =
    stopped (IsPathText (chars c.in_ok-parent.parent.now)) (AreOperands Move (chars c.args.operands.now)) c.from_residual-in_err-parent-2.result c.in_err-parent-2.field-0.0 c.from_residual-in_err-parent-2.ensures
    c.in_err-parent-2.ensures.fault (move_parent (chars c.args.operands.now) (chars c.in_ok-from.from.now) (chars c.in_ok-from.rest.now) c.in_ok-from.ensures.found (chars c.in_ok-parent.parent.now) (chars c.in_ok-parent.index.now) c.in_ok-parent.ensures.found)

pub returns-in_err-index-clause-fault : goal.returns-in_err-index-clause-fault
returns-in_err-index-clause-fault c =
    stopped (IsPositionText (chars c.in_ok-parent.index.now)) (AreOperands Move (chars c.args.operands.now)) c.from_residual-in_err-index.result c.in_err-index.field-0.0 c.from_residual-in_err-index.ensures
    c.in_err-index.ensures.fault (move_index (chars c.args.operands.now) (chars c.in_ok-from.from.now) (chars c.in_ok-from.rest.now) c.in_ok-from.ensures.found (chars c.in_ok-parent.parent.now) (chars c.in_ok-parent.index.now) c.in_ok-parent.ensures.found)

pub returns-clause-found : goal.returns-clause-found
returns-clause-found c =
    move_is (chars c.args.operands.now) (chars c.in_ok-from.from.now) (chars c.in_ok-from.rest.now) c.in_ok-from.ensures.found (chars c.in_ok-parent.parent.now) (chars c.in_ok-parent.index.now) c.in_ok-parent.ensures.found c.in_ok-from-2.from
    c.in_ok-parent-2.parent c.in_ok-index.index c.in_ok-from-2.ensures.found c.in_ok-parent-2.ensures.found c.in_ok-index.ensures.found
