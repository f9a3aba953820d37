use Rattle.std.proofs.Common.{sym, ◌∙◌}
use Rattle.std.specs.Str.{chars}
use Rattle.xhtml_reader.proofs.Texts.{empty_chars, full_chars}
use Rattle.edit_script.proofs.OperandLaws.{sheet_is, sheet_some}
use Rattle.edit_script.proofs.operands.read_sheet.Goals as goal

pub returns-then-is_empty-clause-fault : goal.returns-then-is_empty-clause-fault
returns-then-is_empty-clause-fault c = λ action is.
    sheet_some (chars c.args.operands.now) action is (empty_chars c.args.operands.now (sym c.is_empty.ensures ∙ c.if-is_empty.true))

pub returns-clause-found : goal.returns-clause-found
returns-clause-found c =
    sheet_is (chars c.args.operands.now) c.in_ok-from_str.field-0 c.in_ok-from_str.ensures.characters
    (full_chars c.args.operands.now c.utf8.operands (sym c.is_empty.ensures ∙ c.if-is_empty.false))
