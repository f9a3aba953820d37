use Rattle.std.proofs.Common.{◌+◌, ◌*◌, ◌∷◌, [], length}
use Rattle.selectors.specs.Parts.{after_comma_at}
use Rattle.selectors.specs.Compounds.{subclass_at, compound_at, choices_at}
use Rattle.selectors.proofs.Adding.{Adds}
use Rattle.selectors.proofs.compounds.+nesting.Given as goal

abbrev pub decreases-choices : goal.decreases-choices
decreases-choices l = 9 * l.levels

abbrev pub decreases-class_function : goal.decreases-class_function
decreases-class_function l = 9 * l.levels + 1

abbrev pub decreases-pseudo_class : goal.decreases-pseudo_class
decreases-pseudo_class l = 9 * l.levels + 2

abbrev pub decreases-subclass : goal.decreases-subclass
decreases-subclass l = 9 * l.levels + 3

abbrev pub decreases-with_subclasses : goal.decreases-with_subclasses
decreases-with_subclasses l = 9 * l.levels + 4

abbrev pub decreases-compound : goal.decreases-compound
decreases-compound l = 9 * l.levels + 5

abbrev pub decreases-spaced : goal.decreases-spaced
decreases-spaced l = 9 * l.levels + 6

abbrev pub decreases-after_comma : goal.decreases-after_comma
decreases-after_comma l = 9 * l.levels + 7

abbrev pub decreases-with_others : goal.decreases-with_others
decreases-with_others l = 9 * l.levels + 8

abbrev pub invariant-with_subclasses-pieces : goal.invariant-with_subclasses-pieces
invariant-with_subclasses-pieces l = Adds (subclass_at l.text (choices_at l.text l.levels)) l.fn.simples l.tokens l.simples l.rest

abbrev pub decreases-with_subclasses-pieces : goal.decreases-with_subclasses-pieces
decreases-with_subclasses-pieces l = length l.rest

abbrev pub invariant-with_others-pieces : goal.invariant-with_others-pieces
invariant-with_others-pieces l = Adds (after_comma_at (compound_at l.text (choices_at l.text l.levels))) (l.fn.first ∷ []) l.tokens l.compounds l.rest

abbrev pub decreases-with_others-pieces : goal.decreases-with_others-pieces
decreases-with_others-pieces l = length l.rest
