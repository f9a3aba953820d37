use Rattle.std.proofs.Common.{Bool, List, Some, map, filter, ap, sym, ◌∙◌}
use Rattle.plain_types.specs.declared.selector.Selector.{Selector}
use Rattle.plain_types.specs.declared.selector_parts.PseudoElement.TheVariants.{Own}
use Rattle.mini_cascade.specs.Declarations.{selects}
use Rattle.mini_cascade.specs.Greatest.{greater}
use Rattle.selectors.specs.Specificity.{is_less, specificity}
use Rattle.selectors.specs.declared.specificity.Specificity.{Specificity}
use Rattle.mini_cascade.proofs.Appending.{map-cond}
use Rattle.mini_cascade.proofs.Ordering.{specificity_order}
use Rattle.mini_cascade.proofs.Winning.{picked, passed}
use Rattle.style_sources.proofs.declarations.specificity_in.Goals as goal
use Rattle.style_sources.proofs.declarations.specificity_in.Goals.{then-selects, else-selects}

pub loop-selector-preserved : goal.loop-selector-preserved
loop-selector-preserved c =
    let test : Selector → Bool = selects c.args.siblings.now c.args.key Own in
    let chosen : List Selector → List Specificity = λ selectors. map specificity (filter test selectors) in
    let chooses = λ (first : Selector) (rest : List Selector). map-cond test specificity (test first) first (filter test rest) in
    elim c.if-selects.branch [
      | then-selects w ↦
          rw w.best-is (picked is_less specificity_order test specificity chosen chooses
          c.as_slice-selector-items.result.now c.loop-selector.selector-index c.selector-item.result _ _ c.loop-selector-test.true c.selector-item.is
          (sym c.selects.ensures ∙ w.if-selects.true)
          (w.more_specific.ensures ∙ ap (λ (other : Specificity). greater is_less c.loop-selector.best (Some other)) w.specificity.ensures.counts)
          c.loop-selector.invariant)
      | else-selects w ↦
          rw w.best-is (passed is_less specificity_order test specificity chosen chooses
          c.as_slice-selector-items.result.now c.loop-selector.selector-index c.selector-item.result _ c.loop-selector-test.true c.selector-item.is
          (sym c.selects.ensures ∙ w.if-selects.false) c.loop-selector.invariant)
    ]
