use Rattle.std.proofs.Common.{◌∙◌}
use Rattle.selector_match.proofs.AttributeLaws.{begins-by}
use Rattle.selector_match.proofs.attributes.begins.Goals as goal

pub returns : goal.returns
returns c = c.is_some.ensures ∙ begins-by c.args.fold c.args.text.now c.args.value.now c.rest_after.result c.rest_after.ensures.some c.rest_after.ensures.none
