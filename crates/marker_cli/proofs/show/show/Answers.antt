use Rattle.marker_cli.proofs.FaultLemmas.{not_put}
use Rattle.marker_cli.proofs.show.show.Goals as goal

pub returns-in_err-show-clause-cause : goal.returns-in_err-show-clause-cause
returns-in_err-show-clause-cause g c = not_put _ _ c.from_residual.result c.from_residual.ensures c.in_err-show.ensures.cause.cause
