use Rattle.std.proofs.Common.{◌++◌, ◌∙◌, ap, refl, sym, encode_utf8_all}
use Rattle.std.proofs.lemmas.Result.{on_err_weaker, on_ok_weaker}
use Rattle.ports.specs.Grown.{grown}
use Rattle.ports.proofs.GrownLemmas.{front_more, front_same, front_step, grown_after, on_err}
use Rattle.why_report.specs.Accounts.{place_text, source_text}
use Rattle.why_report.proofs.SourceLaws.{declared_bytes}
use Rattle.why_report.proofs.sources.put_source.Goals as goal

pub returns-in_err-put_place-in-Declared-clause-failed : goal.returns-in_err-put_place-in-Declared-clause-failed
returns-in_err-put_place-in-Declared-clause-failed g c =
    on_err _ (front_same (declared_bytes c.in-Declared.place c.in-Declared.important ∙ ap (λ source. encode_utf8_all (source_text source)) (sym c.in-Declared.is))
    (front_more _ c.in_err-put_place-in-Declared.ensures.failed))

pub returns-in_ok-put_place-in-Declared-clause-ok : goal.returns-in_ok-put_place-in-Declared-clause-ok
returns-in_ok-put_place-in-Declared-clause-ok g c =
    on_ok_weaker c.put_all.result
    (λ grew. grown_after _ _ _ _ _ c.in_ok-put_place-in-Declared.ensures.ok grew
    ∙ ap (grown (g.O.Sink.out c.args.out.now)) (ap (λ bs. encode_utf8_all (place_text c.in-Declared.place) ++ bs) c.importance.ensures.text
    ∙ declared_bytes c.in-Declared.place c.in-Declared.important ∙ ap (λ source. encode_utf8_all (source_text source)) (sym c.in-Declared.is)))
    c.put_all.ensures.ok

pub returns-in_ok-put_place-in-Declared-clause-failed : goal.returns-in_ok-put_place-in-Declared-clause-failed
returns-in_ok-put_place-in-Declared-clause-failed g c =
    on_err_weaker c.put_all.result
    (λ front. front_same (ap (λ bs. encode_utf8_all (place_text c.in-Declared.place) ++ bs) c.importance.ensures.text
    ∙ declared_bytes c.in-Declared.place c.in-Declared.important ∙ ap (λ source. encode_utf8_all (source_text source)) (sym c.in-Declared.is))
    (front_step c.in_ok-put_place-in-Declared.ensures.ok refl front))
    c.put_all.ensures.failed
