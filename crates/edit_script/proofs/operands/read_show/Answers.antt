use Rattle.std.proofs.Common.{sym, subst, ◌∙◌, List, ℕ}
use Rattle.std.specs.Str.{chars}
use Rattle.xhtml_reader.proofs.Texts.{empty_chars, full_chars}
use Rattle.edit_script.specs.Machinery.Operands.{AreOperands, of_show}
use Rattle.edit_script.specs.declared.action.Action.TheVariants as action
use Rattle.edit_script.specs.declared.keyword.Keyword.TheVariants.{Show}
use Rattle.edit_script.proofs.OperandLaws.{show_none}
use Rattle.edit_script.proofs.operands.read_show.Goals as goal

pub returns-then-is_empty-clause-found : goal.returns-then-is_empty-clause-found
returns-then-is_empty-clause-found c =
    subst (λ (t : List ℕ). AreOperands Show t action.Show) (sym (empty_chars c.args.operands.now (sym c.is_empty.ensures ∙ c.if-is_empty.true))) of_show

pub returns-else-is_empty-clause-fault : goal.returns-else-is_empty-clause-fault
returns-else-is_empty-clause-fault c = λ action is.
    full_chars c.args.operands.now c.utf8.operands (sym c.is_empty.ensures ∙ c.if-is_empty.false) (show_none (chars c.args.operands.now) action is)
