use Rattle.std.proofs.Common.{sym, ap, ◌∙◌}
use Rattle.xml_definitions.specs.Spelling.{is_legal}
use Rattle.xhtml_items.proofs.Numbers.{numbered_none, numbered_some, numbered_not, not_scalar}
use Rattle.xhtml_items.proofs.references.numbered.Goals as goal

pub returns-in_default : goal.returns-in_default
returns-in_default c = sym (numbered_none c.args.base c.args.digits.now c.in_default.field-0 c.requires.high c.utf8.digits c.requires.digits c.in_default.ensures.value)

pub returns-then-is_legal : goal.returns-then-is_legal
returns-then-is_legal c =
    sym (numbered_some c.args.base c.args.digits.now c.in-Ok.number c.requires.high c.utf8.digits c.requires.digits _ c.in-Ok.is c.from_str_radix.ensures.value
    c.in_ok-character.character c.in_ok-character.ensures.value.1 (sym c.if-is_legal.true ∙ c.is_legal.ensures))

pub returns-else-is_legal : goal.returns-else-is_legal
returns-else-is_legal c =
    sym (numbered_not c.args.base c.args.digits.now c.in-Ok.number c.requires.high c.utf8.digits c.requires.digits _ c.in-Ok.is c.from_str_radix.ensures.value
    (ap is_legal (sym c.in_ok-character.ensures.value.1) ∙ sym c.is_legal.ensures ∙ c.if-is_legal.false))

pub returns-in_err-character : goal.returns-in_err-character
returns-in_err-character c =
    c.from_residual.ensures
    ∙ sym (numbered_not c.args.base c.args.digits.now c.in-Ok.number c.requires.high c.utf8.digits c.requires.digits _ c.in-Ok.is c.from_str_radix.ensures.value
    (not_scalar c.in-Ok.number c.in_err-character.ensures.value))
