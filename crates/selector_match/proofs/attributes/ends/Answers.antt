use Rattle.std.proofs.Common.{◌-◌, length, ap, ◌∙◌}
use Rattle.std.specs.Str.{bytes_eq}
use Rattle.std.proofs.lemmas.List.{take_rest}
use Rattle.selector_match.specs.Attributes.{in_case}
use Rattle.selector_match.proofs.AttributeLaws.{end-same}
use Rattle.selector_match.proofs.attributes.ends.Goals as goal

pub returns-then-value-text : goal.returns-then-value-text
returns-then-value-text c =
    end-same c.args.fold c.args.text.now c.args.value.now c.is_same.result c.if-value-text.true
    (c.is_same.ensures ∙ ap (λ part. bytes_eq (in_case c.args.fold part) (in_case c.args.fold c.args.value.now)) (take_rest c.args.text.now (length c.args.text.now - length c.args.value.now)))
