use Rattle.std.proofs.Common.{◌≡◌, map, filter, drop}
use Rattle.mini_cascade.specs.Declarations.{selects}
use Rattle.mini_cascade.specs.Greatest.{greater, greatest}
use Rattle.selectors.specs.Specificity.{is_less, specificity}
use Rattle.mini_cascade.proofs.applicable.specificity_in.Given as goal

abbrev pub invariant-loop-selector : goal.invariant-loop-selector
invariant-loop-selector l =
    greater is_less l.best (greatest is_less (map specificity (filter (selects l.siblings l.key l.pseudo) (drop l.selector-index l.selector-items))))
    ≡ greatest is_less (map specificity (filter (selects l.siblings l.key l.pseudo) l.selector-items))
