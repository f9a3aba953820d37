use Rattle.std.proofs.Common.{refl, sym}
use Rattle.ports.proofs.GrownLemmas.{on_err}
use Rattle.marker_cli.proofs.BakeLemmas.{baked_as}
use Rattle.marker_cli.proofs.FaultLemmas.{not_put}
use Rattle.marker_cli.proofs.bake.put_baked.Goals as goal

pub returns-in_err-bake-clause-failed : goal.returns-in_err-bake-clause-failed
returns-in_err-bake-clause-failed g c =
    on_err c.from_residual-in_err-bake.result
    (λ output is. c.in_err-bake.ensures.failed output (baked_as is refl (sym c.in_ok-engine.ensures.sheet) (sym c.in_ok-engine.ensures.tree)))

pub returns-in_err-bake-clause-cause : goal.returns-in_err-bake-clause-cause
returns-in_err-bake-clause-cause g c = not_put _ _ c.from_residual-in_err-bake.result c.from_residual-in_err-bake.ensures c.in_err-bake.ensures.cause.cause
