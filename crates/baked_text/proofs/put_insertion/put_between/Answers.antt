use Rattle.std.proofs.Common.{refl}
use Rattle.std.proofs.lemmas.Result.{on_err_weaker}
use Rattle.ports.proofs.GrownLemmas.{front_last, front_step, on_err}
use Rattle.baked_text.proofs.put_insertion.put_between.Goals as goal

pub returns-in_err-put_all-clause-failed : goal.returns-in_err-put_all-clause-failed
returns-in_err-put_all-clause-failed g c = on_err _ (front_last _ c.in_err-put_all.ensures.failed refl)

pub returns-in_err-put_all-2-clause-failed : goal.returns-in_err-put_all-2-clause-failed
returns-in_err-put_all-2-clause-failed g c = on_err _ (front_step c.in_ok-put_all.ensures.ok refl (front_last _ c.in_err-put_all-2.ensures.failed c.as_bytes.ensures.value))

pub returns-clause-failed : goal.returns-clause-failed
returns-clause-failed g c =
    on_err_weaker c.put_all-3.result (λ front. front_step c.in_ok-put_all.ensures.ok refl (front_step c.in_ok-put_all-2.ensures.ok c.as_bytes.ensures.value front)) c.put_all-3.ensures.failed
