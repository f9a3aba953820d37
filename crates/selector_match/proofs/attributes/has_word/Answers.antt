use Rattle.std.proofs.Common.{◌&&◌, not, sym, ap, ◌∙◌}
use Rattle.selector_match.proofs.AttributeLaws.{word-found}
use Rattle.selector_match.proofs.attributes.has_word.Goals as goal

pub returns-then-not-is_empty : goal.returns-then-not-is_empty
returns-then-not-is_empty c =
    sym (ap (λ b. not b && c.has_part.result) c.if-not-is_empty.true)
    ∙ word-found c.args.fold c.args.text.now c.args.word.now c.is_empty.result c.has_part.result c.is_empty.ensures c.has_part.ensures
