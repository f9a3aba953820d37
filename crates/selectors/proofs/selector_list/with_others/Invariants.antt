use Rattle.std.proofs.Common.{◌∷◌, [], length}
use Rattle.selectors.specs.Parts.{after_comma_at}
use Rattle.selectors.specs.Selectors.{selector_at}
use Rattle.selectors.proofs.Adding.{Adds}
use Rattle.selectors.proofs.selector_list.with_others.Given as goal

abbrev pub invariant-pieces : goal.invariant-pieces
invariant-pieces l = Adds (after_comma_at (selector_at l.text)) (l.fn.first ∷ []) l.tokens l.selectors l.rest

abbrev pub decreases-pieces : goal.decreases-pieces
decreases-pieces l = length l.rest
