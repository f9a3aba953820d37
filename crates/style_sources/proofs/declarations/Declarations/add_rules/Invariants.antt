use Rattle.std.proofs.Common.{◌≡◌, ◌++◌, drop}
use Rattle.style_sources.specs.Sources.{declared_from}
use Rattle.style_sources.proofs.declarations.Declarations.add_rules.Given as goal

abbrev pub invariant-loop-number : goal.invariant-loop-number
invariant-loop-number l =
    l.self ++ declared_from l.siblings l.key l.origin l.number (drop l.number l.rules) ≡ l.initial.self ++ declared_from l.siblings l.key l.origin 0 l.rules
