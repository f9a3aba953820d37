use Rattle.std.proofs.Common.{◌≡◌, drop}
use Rattle.std.specs.List.{fold}
use Rattle.counter_style_table.specs.Rules.{with_rule}
use Rattle.counter_style_table.proofs.build.put_all.Given as goal

abbrev pub invariant-loop-rule : goal.invariant-loop-rule
invariant-loop-rule l = fold with_rule l.rules (drop l.rule-index l.styles) ≡ fold with_rule l.initial.rules l.styles
