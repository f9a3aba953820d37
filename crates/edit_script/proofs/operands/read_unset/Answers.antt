use Rattle.std.specs.Str.{chars}
use Rattle.edit_script.specs.Machinery.Operands.{AreOperands}
use Rattle.edit_script.specs.Machinery.Words.{AreParts, IsNameText}
use Rattle.edit_script.specs.Scripts.{IsPathText}
use Rattle.edit_script.specs.declared.keyword.Keyword.TheVariants.{Unset}
use Rattle.edit_script.proofs.FaultLaws.{stopped}
use Rattle.edit_script.proofs.OperandLaws.{unset_is, unset_name, unset_path, unset_split}
use Rattle.edit_script.proofs.operands.read_unset.Goals as goal

pub returns-in_err-path-clause-fault : goal.returns-in_err-path-clause-fault
returns-in_err-path-clause-fault c =
    stopped (AreParts (chars c.args.operands.now)) (AreOperands Unset (chars c.args.operands.now)) c.from_residual.result c.in_err-path.field-0.0 c.from_residual.ensures
    c.in_err-path.ensures.fault (unset_split (chars c.args.operands.now))

pub returns-in_err-path-2-clause-fault : goal.returns-in_err-path-2-clause-fault
returns-in_err-path-2-clause-fault c =
    stopped (IsPathText (chars c.in_ok-path.path.now)) (AreOperands Unset (chars c.args.operands.now)) c.from_residual-in_err-path-2.result c.in_err-path-2.field-0.0 c.from_residual-in_err-path-2.ensures
    c.in_err-path-2.ensures.fault (unset_path (chars c.args.operands.now) (chars c.in_ok-path.path.now) (chars c.in_ok-path.name.now) c.in_ok-path.ensures.found)

pub returns-in_err-name-clause-fault : goal.returns-in_err-name-clause-fault
returns-in_err-name-clause-fault c =
    stopped (IsNameText (chars c.in_ok-path.name.now)) (AreOperands Unset (chars c.args.operands.now)) c.from_residual-in_err-name.result c.in_err-name.field-0.0 c.from_residual-in_err-name.ensures
    c.in_err-name.ensures.fault (unset_name (chars c.args.operands.now) (chars c.in_ok-path.path.now) (chars c.in_ok-path.name.now) c.in_ok-path.ensures.found)

pub returns-clause-found : goal.returns-clause-found
returns-clause-found c =
    unset_is (chars c.args.operands.now) (chars c.in_ok-path.path.now) (chars c.in_ok-path.name.now) c.in_ok-path.ensures.found c.in_ok-path-2.path c.in_ok-name.name
    c.in_ok-path-2.ensures.found c.in_ok-name.ensures.found
