use Rattle.std.proofs.Common.{refl}
use Rattle.std.proofs.lemmas.Result.{on_err_weaker}
use Rattle.ports.proofs.GrownLemmas.{front_last, front_step, on_err}
use Rattle.marker_cli.proofs.put_number.put_numbered.Goals as goal

pub returns-in_err-put_all-clause-failed : goal.returns-in_err-put_all-clause-failed
returns-in_err-put_all-clause-failed g c = on_err _ (front_last _ c.in_err-put_all.ensures.failed refl)

pub returns-clause-failed : goal.returns-clause-failed
returns-clause-failed g c = on_err_weaker c.put_number.result (λ h. front_step c.in_ok-put_all.ensures.ok refl h) c.put_number.ensures.failed
