use Rattle.std.proofs.Common.{refl, [], ◌∷◌}
use Rattle.plain_types.specs.declared.declaration.Declared.{Declared}
use Rattle.plain_types.specs.declared.selector_parts.PseudoElement.TheVariants.{Own}
use Rattle.mini_cascade.specs.Declarations.{attached, attached_rank, ranked}
use Rattle.mini_cascade.proofs.Appending.{appended}
use Rattle.mini_cascade.proofs.applicable.add_attached.Goals as goal

pub loop-declared-preserved : goal.loop-declared-preserved
loop-declared-preserved c =
    appended (λ (d : Declared). ranked (attached_rank d.important) d.what ∷ []) (λ inline. attached Own inline) (λ first rest. refl)
    c.args.inline.now c.loop-declared.declared-index c.declared-item.result _ _ _ c.loop-declared-test.true c.declared-item.is
    (rw c.cascade_level-level.ensures at c.in_ok-push.ensures.ok) c.loop-declared.invariant
