use Rattle.std.proofs.Common.{◌≡◌, ◌<◌, ◌++◌, reverse, All}
use Rattle.css_definitions.specs.Representation.{bijective_digits}
use Rattle.representation.proofs.systems.write_alphabetic.Given as goal

abbrev pub invariant-digit : goal.invariant-digit
invariant-digit l = record {
  within : All (λ digit. digit < l.base) l.digits.items;
  known : bijective_digits l.base l.number ≡ bijective_digits l.base l.rest ++ reverse l.digits.items;
}

abbrev pub decreases-digit : goal.decreases-digit
decreases-digit l = l.rest
