use Rattle.std.proofs.Common.{◌≡◌, drop, map}
use Rattle.selectors.specs.Specificity.{sum_with, pseudo_specificity, compound_specificity}
use Rattle.selectors.proofs.counting.specificity.Given as goal

abbrev pub invariant-loop-compound : goal.invariant-loop-compound
invariant-loop-compound l = sum_with l.sum (map compound_specificity (drop l.compound-index l.selector.compounds)) ≡ sum_with (pseudo_specificity l.selector.pseudo) (map compound_specificity l.selector.compounds)
