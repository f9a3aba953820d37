use Rattle.std.specs.Str.{chars}
use Rattle.edit_script.specs.Machinery.Operands.{AreOperands}
use Rattle.edit_script.specs.Machinery.Words.{AreParts, IsNameText}
use Rattle.edit_script.specs.Scripts.{IsPathText}
use Rattle.edit_script.specs.declared.keyword.Keyword.TheVariants.{Set}
use Rattle.edit_script.proofs.FaultLaws.{stopped}
use Rattle.edit_script.proofs.OperandLaws.{set_is, set_name, set_path, set_split}
use Rattle.edit_script.proofs.operands.read_set.Goals as goal

pub returns-in_err-path-clause-fault : goal.returns-in_err-path-clause-fault
returns-in_err-path-clause-fault c =
    stopped (AreParts (chars c.args.operands.now)) (AreOperands Set (chars c.args.operands.now)) c.from_residual.result c.in_err-path.field-0.0 c.from_residual.ensures
    c.in_err-path.ensures.fault (set_split (chars c.args.operands.now))

pub returns-in_err-path-2-clause-fault : goal.returns-in_err-path-2-clause-fault
returns-in_err-path-2-clause-fault c =
    stopped (IsPathText (chars c.in_ok-path.path.now)) (AreOperands Set (chars c.args.operands.now)) c.from_residual-in_err-path-2.result c.in_err-path-2.field-0.0 c.from_residual-in_err-path-2.ensures
    c.in_err-path-2.ensures.fault (set_path (chars c.args.operands.now) (chars c.in_ok-path.path.now) (chars c.in_ok-path.rest.now) c.in_ok-path.ensures.found)

pub returns-in_err-name-clause-fault : goal.returns-in_err-name-clause-fault
returns-in_err-name-clause-fault c =
    stopped (IsNameText (chars c.split_value.result.0.now)) (AreOperands Set (chars c.args.operands.now)) c.from_residual-in_err-name.result c.in_err-name.field-0.0 c.from_residual-in_err-name.ensures
    c.in_err-name.ensures.fault (set_name (chars c.args.operands.now) (chars c.in_ok-path.path.now) (chars c.in_ok-path.rest.now) c.in_ok-path.ensures.found (chars c.split_value.result.0.now) (chars c.split_value.result.1.now) c.split_value.ensures.found)

pub returns-clause-found : goal.returns-clause-found
returns-clause-found c =
    rw c.in_ok-value.ensures.characters
    (set_is (chars c.args.operands.now) (chars c.in_ok-path.path.now) (chars c.in_ok-path.rest.now) c.in_ok-path.ensures.found (chars c.split_value.result.0.now) (chars c.split_value.result.1.now) c.in_ok-path-2.path
    c.in_ok-name.name c.split_value.ensures.found c.in_ok-path-2.ensures.found c.in_ok-name.ensures.found)
