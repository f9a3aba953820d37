use Rattle.std.proofs.Common.{◌∷◌, [], ◌∙◌, ap, refl}
use Rattle.std.proofs.lemmas.Result.{on_err_weaker, on_ok_weaker}
use Rattle.ports.specs.Grown.{grown}
use Rattle.ports.proofs.GrownLemmas.{front_last, front_same, front_step, grown_after, on_err}
use Rattle.why_report.proofs.SourceLaws.{line_bytes}
use Rattle.why_report.proofs.sources.put_source_line.Goals as goal

pub returns-in_err-put_all-clause-failed : goal.returns-in_err-put_all-clause-failed
returns-in_err-put_all-clause-failed g c = on_err _ (front_same (line_bytes c.args.property c.args.source) (front_last _ c.in_err-put_all.ensures.failed (c.as_bytes.ensures.value ∙ c.property_name.ensures.name)))

pub returns-in_err-put_all-2-clause-failed : goal.returns-in_err-put_all-2-clause-failed
returns-in_err-put_all-2-clause-failed g c =
    on_err _ (front_same (line_bytes c.args.property c.args.source)
    (front_step c.in_ok-put_all.ensures.ok (c.as_bytes.ensures.value ∙ c.property_name.ensures.name) (front_last {piece = 32 ∷ []} _ c.in_err-put_all-2.ensures.failed refl)))

pub returns-in_err-put_source-clause-failed : goal.returns-in_err-put_source-clause-failed
returns-in_err-put_source-clause-failed g c =
    on_err _ (front_same (line_bytes c.args.property c.args.source)
    (front_step c.in_ok-put_all.ensures.ok (c.as_bytes.ensures.value ∙ c.property_name.ensures.name) (front_step {piece = 32 ∷ []} c.in_ok-put_all-2.ensures.ok refl
    (front_last _ c.in_err-put_source.ensures.failed refl))))

pub returns-clause-ok : goal.returns-clause-ok
returns-clause-ok g c =
    on_ok_weaker c.put_all-3.result
    (λ grew. grown_after _ _ _ _ _ (c.in_ok-put_all.ensures.ok ∙ ap (grown (g.O.Sink.out c.args.out.now)) (c.as_bytes.ensures.value ∙ c.property_name.ensures.name))
    (grown_after _ _ _ (32 ∷ []) _ c.in_ok-put_all-2.ensures.ok (grown_after _ _ _ _ (10 ∷ []) c.in_ok-put_source.ensures.ok grew))
    ∙ ap (grown (g.O.Sink.out c.args.out.now)) (line_bytes c.args.property c.args.source))
    c.put_all-3.ensures.ok

pub returns-clause-failed : goal.returns-clause-failed
returns-clause-failed g c =
    on_err_weaker c.put_all-3.result
    (λ front. front_same (line_bytes c.args.property c.args.source)
    (front_step c.in_ok-put_all.ensures.ok (c.as_bytes.ensures.value ∙ c.property_name.ensures.name) (front_step {piece = 32 ∷ []} c.in_ok-put_all-2.ensures.ok refl
    (front_step c.in_ok-put_source.ensures.ok refl front))))
    c.put_all-3.ensures.failed
