use Rattle.std.proofs.Common.{refl, [], ◌∷◌}
use Rattle.plain_types.specs.declared.declaration.Declaration.{Declaration}
use Rattle.plain_types.specs.declared.selector_parts.PseudoElement.TheVariants.{Own}
use Rattle.mini_cascade.specs.Declarations.{hint_rank, hinted, ranked}
use Rattle.mini_cascade.proofs.Appending.{appended}
use Rattle.mini_cascade.proofs.applicable.add_hints.Goals as goal

pub loop-hint-preserved : goal.loop-hint-preserved
loop-hint-preserved c =
    appended (λ (hint : Declaration). ranked hint_rank hint ∷ []) (λ hints. hinted Own hints) (λ first rest. refl)
    c.args.hints.now c.loop-hint.hint-index c.hint-item.result _ _ _ c.loop-hint-test.true c.hint-item.is c.in_ok-push.ensures.ok c.loop-hint.invariant
