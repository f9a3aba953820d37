use Rattle.marker_cli.proofs.FaultLemmas.{not_put}
use Rattle.marker_cli.proofs.aspect.put_text.Goals as goal

pub returns-in_err-view-clause-cause : goal.returns-in_err-view-clause-cause
returns-in_err-view-clause-cause g c = not_put _ _ c.from_residual.result c.from_residual.ensures c.in_err-view.ensures.cause.cause
