use Rattle.std.proofs.Common.{refl, false, [], ◌∷◌}
use Rattle.plain_types.specs.declared.declaration.Declaration.{Declaration}
use Rattle.selectors.specs.Specificity.{nothing}
use Rattle.style_sources.specs.Sources.{hinted, placed}
use Rattle.style_sources.specs.declared.place.DeclarationPlace.TheVariants.{Hint}
use Rattle.mini_cascade.proofs.Appending.{appended}
use Rattle.style_sources.proofs.declarations.Declarations.add_hints.Goals as goal

pub loop-hint-preserved : goal.loop-hint-preserved
loop-hint-preserved c =
    appended (λ (hint : Declaration). placed Hint false nothing hint ∷ []) (λ hints. hinted hints) (λ first rest. refl)
    c.args.hints.now c.loop-hint.hint-index c.hint-item.result _ _ _ c.loop-hint-test.true c.hint-item.is c.in_ok-push.ensures.ok c.loop-hint.invariant
