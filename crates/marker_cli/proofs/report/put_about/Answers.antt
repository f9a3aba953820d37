use Rattle.std.proofs.Common.{refl, codes}
use Rattle.std.proofs.lemmas.Result.{on_err_weaker}
use Rattle.ports.proofs.GrownLemmas.{on_err, front_step, front_last}
use Rattle.marker_cli.proofs.report.put_about.Goals as goal

pub returns-in_err-put_all-clause-failed : goal.returns-in_err-put_all-clause-failed
returns-in_err-put_all-clause-failed g c = on_err _ (front_last {piece = codes "marker: "} _ c.in_err-put_all.ensures.failed refl)

pub returns-in_err-put_name-clause-failed : goal.returns-in_err-put_name-clause-failed
returns-in_err-put_name-clause-failed g c = on_err _ (front_step {piece = codes "marker: "} c.in_ok-put_all.ensures.ok refl (front_last _ c.in_err-put_name.ensures.failed refl))

pub returns-clause-failed : goal.returns-clause-failed
returns-clause-failed g c =
    on_err_weaker c.put_all-2.result (λ h. front_step {piece = codes "marker: "} c.in_ok-put_all.ensures.ok refl (front_step c.in_ok-put_name.ensures.ok refl h)) c.put_all-2.ensures.failed
