use Rattle.std.proofs.Common.{◌≡◌, List, ◌++◌, Bor, drop, flat_map, map, refl}
use Rattle.std.specs.Map.Iter.{deref}
use Rattle.plain_types.specs.declared.selector_parts.PseudoElement.{PseudoElement}
use Rattle.plain_types.specs.declared.selector_parts.PseudoElement.TheVariants.{Own, Marker, Before, After}
use Rattle.plain_types.specs.declared.sheet.StyleRule.{StyleRule}
use Rattle.mini_cascade.specs.Declarations.{Applied, declared_in}
use Rattle.mini_cascade.proofs.Appending.{appended}
use Rattle.mini_cascade.proofs.applicable.add_rules.Goals as goal

pub loop-rule-preserved : goal.loop-rule-preserved
loop-rule-preserved c =
    let rules = c.args.rules.now in
    let place = c.loop-rule.rule-index in
    let declares = λ (pseudo : PseudoElement). declared_in c.args.siblings.now c.args.key pseudo c.args.origin in
    let step = λ (pseudo : PseudoElement) (old next end : List Applied) (is : next ≡ old ++ declares pseudo c.rule-item.result.now)
    (reaches : old ++ flat_map (declares pseudo) (map deref (drop place rules)) ≡ end).
    appended (λ (rule : Bor StyleRule). declares pseudo rule.now) (λ list. flat_map (declares pseudo) (map deref list)) (λ first rest. refl)
    rules place c.rule-item.result old next end c.loop-rule-test.true c.rule-item.is is reaches in
    record {
      own = step Own _ _ _ c.in_ok-add_rule.ensures.ok c.loop-rule.invariant.own;
      marker = step Marker _ _ _ c.in_ok-add_rule-2.ensures.ok c.loop-rule.invariant.marker;
      before = step Before _ _ _ c.in_ok-add_rule-3.ensures.ok c.loop-rule.invariant.before;
      after = step After _ _ _ c.in_ok-add_rule-4.ensures.ok c.loop-rule.invariant.after;
    }
