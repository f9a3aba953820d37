use Rattle.std.proofs.Common.{◌≡◌, map, take}
use Rattle.counter_style_table.specs.Predefined.{rule_of}
use Rattle.counter_style_table.proofs.predefined.rules_of.Given as goal

abbrev pub invariant-loop-style : goal.invariant-loop-style
invariant-loop-style l = l.rules ≡ map rule_of (take l.style-index l.styles)
