use Rattle.std.proofs.Common.{◌≡◌, ◌<◌, ◌++◌, reverse, All}
use Rattle.std.specs.Int.Digits.{digits_of}
use Rattle.representation.proofs.systems.write_numeric.Given as goal

abbrev pub invariant-digit : goal.invariant-digit
invariant-digit l = record {
  within : All (λ digit. digit < l.base) l.digits.items;
  known : digits_of l.base l.number ≡ digits_of l.base l.rest ++ reverse l.digits.items;
}

abbrev pub decreases-digit : goal.decreases-digit
decreases-digit l = l.rest
