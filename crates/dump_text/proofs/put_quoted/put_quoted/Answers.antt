use Rattle.std.proofs.Common.{◌++◌, ◌∷◌, [], ◌∙◌, ap, append-nil}
use Rattle.std.specs.List.{flat_map}
use Rattle.std.proofs.lemmas.Result.{on_err_weaker, on_ok_weaker}
use Rattle.ports.specs.Grown.{grown}
use Rattle.dump_definitions.specs.Dump.{shown}
use Rattle.ports.proofs.GrownLemmas.{front_after, on_err, grown-grown, grown-nil}
use Rattle.dump_text.proofs.EncodedLemmas.{quoted_bytes}
use Rattle.dump_text.proofs.put_quoted.put_quoted.Goals as goal

pub returns-in_err-put_all-clause-failed : goal.returns-in_err-put_all-clause-failed
returns-in_err-put_all-clause-failed g c =
    on_err _ (front_after _ _ _ [] _ _ _ (grown-nil _) c.in_err-put_all.ensures.failed (quoted_bytes c.args.text.now c.utf8.text))

pub returns-in_err-put_shown-clause-failed : goal.returns-in_err-put_shown-clause-failed
returns-in_err-put_shown-clause-failed g c =
    on_err _ (front_after _ _ _ _ _ _ _ c.in_ok-put_all.ensures.ok c.in_err-put_shown.ensures.failed
    (ap (λ bs. (34 ∷ bs) ++ 34 ∷ []) (ap (λ bs. flat_map shown bs) c.as_bytes.ensures.value) ∙ quoted_bytes c.args.text.now c.utf8.text))

pub returns-clause-ok : goal.returns-clause-ok
returns-clause-ok g c =
    let written = c.in_ok-put_shown.ensures.ok ∙ ap (λ o. grown o (flat_map shown c.as_bytes.result.now)) c.in_ok-put_all.ensures.ok ∙ grown-grown _ _ _ in
    on_ok_weaker c.put_all-2.result
    (λ h. h ∙ ap (λ o. grown o (34 ∷ [])) written ∙ grown-grown _ _ _
    ∙ ap (λ bs. grown (g.O.Sink.out c.args.out.now) bs) (ap (λ bs. (34 ∷ bs) ++ 34 ∷ []) (ap (λ bs. flat_map shown bs) c.as_bytes.ensures.value) ∙ quoted_bytes c.args.text.now c.utf8.text))
    c.put_all-2.ensures.ok

pub returns-clause-failed : goal.returns-clause-failed
returns-clause-failed g c =
    let written = c.in_ok-put_shown.ensures.ok ∙ ap (λ o. grown o (flat_map shown c.as_bytes.result.now)) c.in_ok-put_all.ensures.ok ∙ grown-grown _ _ _ in
    on_err_weaker c.put_all-2.result
    (λ h. front_after _ _ _ _ _ [] _ written h
    (append-nil _ ∙ ap (λ bs. (34 ∷ bs) ++ 34 ∷ []) (ap (λ bs. flat_map shown bs) c.as_bytes.ensures.value) ∙ quoted_bytes c.args.text.now c.utf8.text))
    c.put_all-2.ensures.failed
