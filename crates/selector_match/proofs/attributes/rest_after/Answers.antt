use Rattle.std.proofs.Common.{sym, ap, ◌++◌, ◌∙◌, length}
use Rattle.std.proofs.lemmas.List.{take_rest}
use Rattle.selector_match.specs.Attributes.{in_case}
use Rattle.selector_match.proofs.AttributeLaws.{rest-found, too-long, other-front}
use Rattle.selector_match.proofs.attributes.rest_after.Goals as goal
use Rattle.selector_match.proofs.attributes.rest_after.Goals.{else-value-text-via-then-value-text+else-is_same, else-value-text-via-else-value-text}

pub returns-then-is_same-clause-some : goal.returns-then-is_same-clause-some
returns-then-is_same-clause-some c =
    rest-found c.args.fold c.args.text.now c.args.value.now (sym c.is_same.ensures ∙ c.if-is_same.true)
    ∙ ap (λ rest. in_case c.args.fold c.args.value.now ++ in_case c.args.fold rest) (sym (take_rest c.args.text.now (length c.args.value.now)))

pub returns-clause-none : goal.returns-clause-none
returns-clause-none c = elim c.else-value-text.branch [
  | else-value-text-via-then-value-text+else-is_same w ↦ other-front c.args.fold c.args.text.now c.args.value.now (sym w.is_same.ensures ∙ w.if-is_same.false)
  | else-value-text-via-else-value-text w ↦ too-long c.args.fold c.args.text.now c.args.value.now w.if-value-text.false
]
