use Rattle.std.proofs.Common.{◌≡◌, drop, filter}
use Rattle.std.specs.List.{fold}
use Rattle.css_definitions.specs.CounterStyles.{defines}
use Rattle.counter_style_table.specs.Rules.{with_rule}
use Rattle.counter_style_table.proofs.build.put_defining.Given as goal

abbrev pub invariant-loop-rule : goal.invariant-loop-rule
invariant-loop-rule l = fold with_rule l.rules (filter defines (drop l.rule-index l.styles)) ≡ fold with_rule l.initial.rules (filter defines l.styles)
