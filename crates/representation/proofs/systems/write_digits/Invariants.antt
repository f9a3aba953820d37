use Rattle.std.proofs.Common.{◌≡◌, ◌<◌, length, flat_map, reverse, All}
use Rattle.css_definitions.specs.Representation.{symbol}
use Rattle.representation.specs.Draft.{extended}
use Rattle.representation.proofs.systems.write_digits.Given as goal

abbrev pub invariant-loop-digit : goal.invariant-loop-digit
invariant-loop-digit l = record {
  within : All (λ digit. digit < length l.symbols) l.digits.items;
  to_do : extended l.draft (flat_map (symbol l.symbols) (reverse l.digits.items)) ≡ extended l.fn.draft (flat_map (symbol l.symbols) (reverse l.fn.digits.items));
}

abbrev pub decreases-loop-digit : goal.decreases-loop-digit
decreases-loop-digit l = length l.digits.items
