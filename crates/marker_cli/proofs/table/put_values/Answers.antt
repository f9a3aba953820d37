use Rattle.marker_cli.proofs.FaultLemmas.{not_put}
use Rattle.marker_cli.proofs.table.put_values.Goals as goal

pub returns-in_err-put_rows-clause-cause : goal.returns-in_err-put_rows-clause-cause
returns-in_err-put_rows-clause-cause g c = not_put _ _ c.from_residual-in_err-put_rows.result c.from_residual-in_err-put_rows.ensures c.in_err-put_rows.ensures.cause.cause
