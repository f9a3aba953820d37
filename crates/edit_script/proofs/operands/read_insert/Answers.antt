use Rattle.std.specs.Str.{chars}
use Rattle.xml_definitions.specs.Texts.{IsFragmentText}
use Rattle.edit_script.specs.Machinery.Operands.{AreOperands}
use Rattle.edit_script.specs.Machinery.Words.{AreParts, IsPositionText}
use Rattle.edit_script.specs.Scripts.{IsPathText}
use Rattle.edit_script.specs.declared.keyword.Keyword.TheVariants.{Insert}
use Rattle.edit_script.proofs.FaultLaws.{stopped}
use Rattle.edit_script.proofs.OperandLaws.{insert_index, insert_is, insert_markup, insert_path, insert_rest, insert_split}
use Rattle.edit_script.proofs.operands.read_insert.Goals as goal

pub returns-in_err-parent-clause-fault : goal.returns-in_err-parent-clause-fault
returns-in_err-parent-clause-fault c =
    stopped (AreParts (chars c.args.operands.now)) (AreOperands Insert (chars c.args.operands.now)) c.from_residual.result c.in_err-parent.field-0.0 c.from_residual.ensures
    c.in_err-parent.ensures.fault (insert_split (chars c.args.operands.now))

pub returns-in_err-index-clause-fault : goal.returns-in_err-index-clause-fault
returns-in_err-index-clause-fault c =
    stopped (AreParts (chars c.in_ok-parent.rest.now)) (AreOperands Insert (chars c.args.operands.now)) c.from_residual-in_err-index.result c.in_err-index.field-0.0 c.from_residual-in_err-index.ensures
    c.in_err-index.ensures.fault (insert_rest (chars c.args.operands.now) (chars c.in_ok-parent.parent.now) (chars c.in_ok-parent.rest.now) c.in_ok-parent.ensures.found)

pub returns-in_err-parent-2-clause-fault : goal.returns-in_err-parent-2-clause-fault
returns-in_err-parent-2-clause-fault c =
    stopped (IsPathText (chars c.in_ok-parent.parent.now)) (AreOperands Insert (chars c.args.operands.now)) c.from_residual-in_err-parent-2.result c.in_err-parent-2.field-0.0 c.from_residual-in_err-parent-2.ensures
    c.in_err-parent-2.ensures.fault (insert_path (chars c.args.operands.now) (chars c.in_ok-parent.parent.now) (chars c.in_ok-parent.rest.now) c.in_ok-parent.ensures.found)

pub returns-in_err-index-2-clause-fault : goal.returns-in_err-index-2-clause-fault
returns-in_err-index-2-clause-fault c =
    stopped (IsPositionText (chars c.in_ok-index.index.now)) (AreOperands Insert (chars c.args.operands.now)) c.from_residual-in_err-index-2.result c.in_err-index-2.field-0.0 c.from_residual-in_err-index-2.ensures
    c.in_err-index-2.ensures.fault (insert_index (chars c.args.operands.now) (chars c.in_ok-parent.parent.now) (chars c.in_ok-parent.rest.now) c.in_ok-parent.ensures.found (chars c.in_ok-index.index.now) (chars c.in_ok-index.markup.now) c.in_ok-index.ensures.found)

pub returns-in_err-fragment-clause-fault : goal.returns-in_err-fragment-clause-fault
returns-in_err-fragment-clause-fault c =
    stopped (IsFragmentText (chars c.in_ok-index.markup.now)) (AreOperands Insert (chars c.args.operands.now)) c.from_residual-in_err-fragment.result c.in_err-fragment.field-0.0 c.from_residual-in_err-fragment.ensures
    c.in_err-fragment.ensures.fault (insert_markup (chars c.args.operands.now) (chars c.in_ok-parent.parent.now) (chars c.in_ok-parent.rest.now) c.in_ok-parent.ensures.found (chars c.in_ok-index.index.now) (chars c.in_ok-index.markup.now) c.in_ok-index.ensures.found)

pub returns-clause-found : goal.returns-clause-found
returns-clause-found c =
    insert_is (chars c.args.operands.now) (chars c.in_ok-parent.parent.now) (chars c.in_ok-parent.rest.now) c.in_ok-parent.ensures.found (chars c.in_ok-index.index.now) (chars c.in_ok-index.markup.now) c.in_ok-index.ensures.found c.in_ok-parent-2.parent
    c.in_ok-index-2.index c.in_ok-fragment.fragment c.in_ok-parent-2.ensures.found c.in_ok-index-2.ensures.found c.in_ok-fragment.ensures.found
