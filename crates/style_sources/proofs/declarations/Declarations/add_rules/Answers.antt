use Rattle.style_sources.proofs.PlacedLaws.{rule_added}
use Rattle.style_sources.proofs.declarations.Declarations.add_rules.Goals as goal

pub loop-number-preserved : goal.loop-number-preserved
loop-number-preserved c =
    rule_added c.args.siblings.now c.args.key c.args.origin c.args.rules.now c.loop-number.number c.index-rules-number.result _ _ _
    c.loop-number-test.true c.index-rules-number.is c.in_ok-add_rule.ensures.ok c.loop-number.invariant
