use Rattle.std.proofs.Common.{◌≡◌, drop, map}
use Rattle.selectors.specs.Specificity.{nothing, sum_with, greatest_with, simple_specificity, compound_specificity}
use Rattle.selectors.proofs.counting.+counting.Given as goal

abbrev pub invariant-greatest-loop-compound : goal.invariant-greatest-loop-compound
invariant-greatest-loop-compound l = greatest_with l.greatest (map compound_specificity (drop l.compound-index l.choices)) ≡ greatest_with nothing (map compound_specificity l.choices)

abbrev pub invariant-sum-loop-simple : goal.invariant-sum-loop-simple
invariant-sum-loop-simple l = sum_with l.sum (map simple_specificity (drop l.simple-index l.simples)) ≡ sum_with nothing (map simple_specificity l.simples)
