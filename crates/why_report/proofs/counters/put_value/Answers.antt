use Rattle.std.proofs.Common.{◌∷◌, [], ◌∙◌, ap, w64}
use Rattle.std.proofs.lemmas.Int.{to_z-of_z}
use Rattle.std.proofs.lemmas.Result.{on_err_weaker, on_ok_weaker}
use Rattle.std.specs.Fmt.{signed_decimal}
use Rattle.ports.specs.Grown.{grown}
use Rattle.ports.proofs.GrownLemmas.{front_last, front_same, front_step, grown_after, on_err}
use Rattle.why_report.proofs.CounterLaws.{value_bytes}
use Rattle.why_report.proofs.counters.put_value.Goals as goal

pub returns-in_err-put_all-clause-failed : goal.returns-in_err-put_all-clause-failed
returns-in_err-put_all-clause-failed g c =
    on_err _ (front_same (value_bytes c.args.value c.format-digits.result.now (c.format-digits.ensures.text ∙ ap signed_decimal (to_z-of_z w64 c.args.value c.ranges.value)) c.format-digits.ensures.ascii)
    (front_last _ c.in_err-put_all.ensures.failed c.as_bytes.ensures.value))

pub returns-clause-ok : goal.returns-clause-ok
returns-clause-ok g c =
    on_ok_weaker c.put_all-2.result
    (λ grew. grown_after _ _ _ _ (10 ∷ []) (c.in_ok-put_all.ensures.ok ∙ ap (grown (g.O.Sink.out c.args.out.now)) c.as_bytes.ensures.value) grew
    ∙ ap (grown (g.O.Sink.out c.args.out.now)) (value_bytes c.args.value c.format-digits.result.now (c.format-digits.ensures.text ∙ ap signed_decimal (to_z-of_z w64 c.args.value c.ranges.value)) c.format-digits.ensures.ascii))
    c.put_all-2.ensures.ok

pub returns-clause-failed : goal.returns-clause-failed
returns-clause-failed g c =
    on_err_weaker c.put_all-2.result
    (λ front. front_same (value_bytes c.args.value c.format-digits.result.now (c.format-digits.ensures.text ∙ ap signed_decimal (to_z-of_z w64 c.args.value c.ranges.value)) c.format-digits.ensures.ascii)
    (front_step c.in_ok-put_all.ensures.ok c.as_bytes.ensures.value front))
    c.put_all-2.ensures.failed
