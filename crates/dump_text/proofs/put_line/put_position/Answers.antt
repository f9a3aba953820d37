use Rattle.std.proofs.Common.{◌∷◌, [], ◌∙◌, ap, refl}
use Rattle.std.proofs.lemmas.Result.{on_err_weaker, on_ok_weaker}
use Rattle.ports.specs.Grown.{grown}
use Rattle.ports.proofs.GrownLemmas.{front_last, front_same, front_step, grown_after, on_err}
use Rattle.dump_text.proofs.LineLemmas.{position_bytes}
use Rattle.dump_text.proofs.put_line.put_position.Goals as goal

pub returns-in_err-put_all-clause-failed : goal.returns-in_err-put_all-clause-failed
returns-in_err-put_all-clause-failed g c =
    on_err _ (front_same (position_bytes c.args.position c.format-digits.result.now c.format-digits.ensures.text c.format-digits.ensures.ascii)
    (front_last {piece = 47 ∷ []} c.format-digits.result.now c.in_err-put_all.ensures.failed refl))

pub returns-clause-ok : goal.returns-clause-ok
returns-clause-ok g c =
    on_ok_weaker c.put_all-2.result
    (λ grew. grown_after _ _ _ (47 ∷ []) c.as_bytes.result.now c.in_ok-put_all.ensures.ok grew
    ∙ ap (λ bs. grown (g.O.Sink.out c.args.out.now) bs) (ap (λ bs. 47 ∷ bs) c.as_bytes.ensures.value ∙ position_bytes c.args.position c.format-digits.result.now c.format-digits.ensures.text c.format-digits.ensures.ascii))
    c.put_all-2.ensures.ok

pub returns-clause-failed : goal.returns-clause-failed
returns-clause-failed g c =
    on_err_weaker c.put_all-2.result
    (λ front. front_same (ap (λ bs. 47 ∷ bs) c.as_bytes.ensures.value ∙ position_bytes c.args.position c.format-digits.result.now c.format-digits.ensures.text c.format-digits.ensures.ascii)
    (front_step {piece = 47 ∷ []} c.in_ok-put_all.ensures.ok refl front))
    c.put_all-2.ensures.failed
