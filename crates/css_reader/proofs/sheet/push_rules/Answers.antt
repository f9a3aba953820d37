use Rattle.std.proofs.Common.{refl}
use Rattle.reading.proofs.Following.{takes_shorter}
use Rattle.css_reader.specs.Rules.{rule_at, rules}
use Rattle.css_reader.specs.Sheets.{style_rule_of, style_def_of}
use Rattle.css_reader.proofs.Gathering.{Gathers-start, Gathers-more, Gathers-read}
use Rattle.css_reader.proofs.Taking.{rule_takes}
use Rattle.css_reader.proofs.sheet.push_rules.Goals as goal

pub rules-init : goal.rules-init
rules-init c = record {
  rules = Gathers-start rule_at (style_rule_of c.args.text.now) c.args.sheet.now.rules c.args.tokens.now _ refl;
  styles = Gathers-start rule_at style_def_of c.args.sheet.now.styles c.args.tokens.now _ refl;
}

pub rules-preserved : goal.rules-preserved
rules-preserved c =
    let gives = rw c.in-Some.is at c.in_ok-found.ensures.rule in
    record {
      rules = Gathers-more rule_at (style_rule_of c.args.text.now) _ _ _ _ _ _ _ c.rules.invariant.rules gives c.in_ok-push_rule.ensures.rules;
      styles = Gathers-more rule_at style_def_of _ _ _ _ _ _ _ c.rules.invariant.styles gives c.in_ok-push_rule.ensures.styles;
    }

pub returns-clause-rules : goal.returns-clause-rules
unfolding rules
returns-clause-rules c =
    let gives = rw c.in_default.is at c.in_ok-found.ensures.rule in
    Gathers-read rule_at (style_rule_of c.args.text.now) (takes_shorter rule_at rule_takes) _ _ _ _ c.rules.invariant.rules gives

pub returns-clause-styles : goal.returns-clause-styles
unfolding rules
returns-clause-styles c =
    let gives = rw c.in_default.is at c.in_ok-found.ensures.rule in
    Gathers-read rule_at style_def_of (takes_shorter rule_at rule_takes) _ _ _ _ c.rules.invariant.styles gives
