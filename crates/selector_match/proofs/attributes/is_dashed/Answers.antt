use Rattle.std.proofs.Common.{sym, ◌∙◌}
use Rattle.selector_match.specs.Attributes.{in_case}
use Rattle.selector_match.proofs.AttributeLaws.{dashed, dash-by-none, dash-by-first, not-dashed}
use Rattle.selector_match.proofs.attributes.is_dashed.Goals as goal

pub returns-then-is_empty : goal.returns-then-is_empty
returns-then-is_empty c =
    dash-by-none c.in-Some.rest.now c.is_empty.result c.is_empty.ensures c.if-is_empty.true
    ∙ sym (dashed c.args.fold c.args.text.now c.args.value.now c.in-Some.rest.now c.in-Some.ensures.some)

pub returns-else-is_empty : goal.returns-else-is_empty
returns-else-is_empty c =
    dash-by-first c.in-Some.rest.now c.is_empty.result c.is_empty.ensures c.if-is_empty.false
    ∙ sym (dashed c.args.fold c.args.text.now c.args.value.now c.in-Some.rest.now c.in-Some.ensures.some)

pub returns-in-None : goal.returns-in-None
returns-in-None c = not-dashed (in_case c.args.fold c.args.text.now) (in_case c.args.fold c.args.value.now) c.in-None.ensures.none
