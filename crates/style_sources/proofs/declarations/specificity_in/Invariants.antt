use Rattle.std.proofs.Common.{◌≡◌, map, filter, drop}
use Rattle.plain_types.specs.declared.selector_parts.PseudoElement.TheVariants.{Own}
use Rattle.mini_cascade.specs.Declarations.{selects}
use Rattle.mini_cascade.specs.Greatest.{greater, greatest}
use Rattle.selectors.specs.Specificity.{is_less, specificity}
use Rattle.style_sources.proofs.declarations.specificity_in.Given as goal

abbrev pub invariant-loop-selector : goal.invariant-loop-selector
invariant-loop-selector l =
    greater is_less l.best (greatest is_less (map specificity (filter (selects l.siblings l.key Own) (drop l.selector-index l.selector-items))))
    ≡ greatest is_less (map specificity (filter (selects l.siblings l.key Own) l.selector-items))
