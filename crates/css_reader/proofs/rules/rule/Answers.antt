use Rattle.std.proofs.Common.{ap, arith, length, rules, ◌∙◌, sym}
use Rattle.css_reader.specs.Rules.{rule_at, style_rule_at}
use Rattle.css_reader.proofs.Taking.{at_rule_leaves, style_rule_leaves}
use Rattle.css_reader.proofs.rules.rule.Goals as goal

pub returns-in_ok-at_rule-in-AtKeyword-clause-fewer : goal.returns-in_ok-at_rule-in-AtKeyword-clause-fewer
returns-in_ok-at_rule-in-AtKeyword-clause-fewer c =
    let fewer = at_rule_leaves _ _ _ c.in_ok-at_rule-in-AtKeyword.ensures in
    omega (arith, fewer, ap length c.in-Some.ensures.cases.0)

pub returns-in_ok-style_rule-in_default-kind : goal.returns-in_ok-style_rule-in_default-kind
unfolding rule_at
returns-in_ok-style_rule-in_default-kind c = record {
  rule = search rules;
  fewer =
      let whole = c.in-Some.ensures.cases.0 in
      let fewer = style_rule_leaves c.in-Some.first.now c.in-Some.after.now _ (ap style_rule_at (sym whole) ∙ c.in_ok-style_rule-in_default-kind.ensures) in
      omega (arith, fewer, ap length whole);
}
