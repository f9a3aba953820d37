use Rattle.std.proofs.Common.{◌≡◌, length}
use Rattle.css_values.specs.Descriptors.{are_falling}
use Rattle.css_values.proofs.descriptors.are_falling.Given as goal

abbrev pub invariant-weights : goal.invariant-weights
invariant-weights l = are_falling l.weights ≡ are_falling l.rest

abbrev pub decreases-weights : goal.decreases-weights
decreases-weights l = length l.rest
