use Rattle.std.proofs.Common.{refl, [], ◌∷◌}
use Rattle.plain_types.specs.declared.declaration.Declared.{Declared}
use Rattle.style_sources.specs.Sources.{declared_with, placed}
use Rattle.mini_cascade.proofs.Appending.{appended}
use Rattle.style_sources.proofs.declarations.Declarations.add_block.Goals as goal

pub loop-declared-preserved : goal.loop-declared-preserved
loop-declared-preserved c =
    appended (λ (d : Declared). placed c.args.place d.important c.args.specificity d.what ∷ []) (λ block. declared_with c.args.place block c.args.specificity) (λ first rest. refl)
    c.args.block.now c.loop-declared.declared-index c.declared-item.result _ _ _ c.loop-declared-test.true c.declared-item.is c.in_ok-push.ensures.ok c.loop-declared.invariant
