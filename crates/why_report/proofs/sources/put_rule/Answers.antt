use Rattle.std.proofs.Common.{◌∷◌, [], ◌++◌, ◌∙◌, ap, refl}
use Rattle.std.proofs.lemmas.Result.{on_err_weaker, on_ok_weaker}
use Rattle.ports.specs.Grown.{grown}
use Rattle.ports.proofs.GrownLemmas.{front_last, front_same, front_step, grown_after, on_err}
use Rattle.why_report.specs.Accounts.{origin_name}
use Rattle.why_report.proofs.SourceLaws.{rule_bytes}
use Rattle.why_report.proofs.sources.put_rule.Goals as goal

pub returns-in_err-put_all-clause-failed : goal.returns-in_err-put_all-clause-failed
returns-in_err-put_all-clause-failed g c =
    on_err _ (front_same (rule_bytes c.args.origin c.args.number c.format-digits.result.now c.format-digits.ensures.text c.format-digits.ensures.ascii)
    (front_last _ c.in_err-put_all.ensures.failed (c.as_bytes.ensures.value ∙ c.origin_name.ensures.name)))

pub returns-in_err-put_all-2-clause-failed : goal.returns-in_err-put_all-2-clause-failed
returns-in_err-put_all-2-clause-failed g c =
    on_err _ (front_same (rule_bytes c.args.origin c.args.number c.format-digits.result.now c.format-digits.ensures.text c.format-digits.ensures.ascii)
    (front_step c.in_ok-put_all.ensures.ok (c.as_bytes.ensures.value ∙ c.origin_name.ensures.name) (front_last {piece = 32 ∷ []} _ c.in_err-put_all-2.ensures.failed refl)))

pub returns-clause-ok : goal.returns-clause-ok
returns-clause-ok g c =
    on_ok_weaker c.put_all-3.result
    (λ grew. grown_after _ _ _ _ _ (c.in_ok-put_all.ensures.ok ∙ ap (grown (g.O.Sink.out c.args.out.now)) (c.as_bytes.ensures.value ∙ c.origin_name.ensures.name))
    (grown_after _ _ _ (32 ∷ []) _ c.in_ok-put_all-2.ensures.ok grew)
    ∙ ap (grown (g.O.Sink.out c.args.out.now)) (ap (λ bs. origin_name c.args.origin ++ 32 ∷ bs) c.as_bytes-2.ensures.value ∙ rule_bytes c.args.origin c.args.number c.format-digits.result.now c.format-digits.ensures.text c.format-digits.ensures.ascii))
    c.put_all-3.ensures.ok

pub returns-clause-failed : goal.returns-clause-failed
returns-clause-failed g c =
    on_err_weaker c.put_all-3.result
    (λ front. front_same (ap (λ bs. origin_name c.args.origin ++ 32 ∷ bs) c.as_bytes-2.ensures.value ∙ rule_bytes c.args.origin c.args.number c.format-digits.result.now c.format-digits.ensures.text c.format-digits.ensures.ascii)
    (front_step c.in_ok-put_all.ensures.ok (c.as_bytes.ensures.value ∙ c.origin_name.ensures.name) (front_step {piece = 32 ∷ []} c.in_ok-put_all-2.ensures.ok refl front)))
    c.put_all-3.ensures.failed
