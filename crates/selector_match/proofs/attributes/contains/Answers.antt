use Rattle.std.proofs.Common.{◌+◌, ◌||◌, nat_eq, drop, sym, ap, ◌∙◌}
use Rattle.std.specs.List.{starts_with}
use Rattle.std.proofs.lemmas.List.{take_rest}
use Rattle.selector_match.specs.Attributes.{contains, in_case}
use Rattle.selector_match.proofs.AttributeLaws.{contains-step}
use Rattle.selector_match.proofs.attributes.contains.Goals as goal

pub loop-start-preserved : goal.loop-start-preserved
loop-start-preserved c =
    let value = in_case c.args.fold c.args.value.now in
    let none = sym (ap (λ xs. starts_with nat_eq (in_case c.args.fold xs) value) (take_rest c.args.text.now c.loop-start.start)) ∙ sym c.begins.ensures ∙ c.if-begins.false in
    sym (contains-step c.args.fold c.args.text.now value c.loop-start.start c.loop-start-test.true ∙ ap (λ b. b || contains (in_case c.args.fold (drop (c.loop-start.start + 1) c.args.text.now)) value) none) ∙ c.loop-start.invariant
