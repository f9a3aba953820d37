use Rattle.std.proofs.Common.{◌∷◌, [], ◌++◌, ◌∙◌, ap, refl, encode_utf8_all}
use Rattle.std.proofs.lemmas.Result.{on_err_weaker, on_ok_weaker}
use Rattle.ports.specs.Grown.{grown}
use Rattle.ports.proofs.GrownLemmas.{front_last, front_same, front_step, grown_after, on_err}
use Rattle.dump_definitions.specs.Dump.{kind_name, quoted}
use Rattle.dump_text.proofs.LineLemmas.{line_bytes}
use Rattle.dump_text.proofs.put_line.put_line.Goals as goal

pub returns-in_err-put_path-clause-failed : goal.returns-in_err-put_path-clause-failed
returns-in_err-put_path-clause-failed g c =
    on_err _ (front_same (line_bytes c.args.path.now c.args.kind c.args.text.now) (front_last _ c.in_err-put_path.ensures.failed refl))

pub returns-in_err-put_kind-clause-failed : goal.returns-in_err-put_kind-clause-failed
returns-in_err-put_kind-clause-failed g c =
    on_err _ (front_same (line_bytes c.args.path.now c.args.kind c.args.text.now)
    (front_step c.in_ok-put_path.ensures.ok refl (front_last {piece = 32 ∷ (kind_name c.args.kind ++ 32 ∷ [])} _ c.in_err-put_kind.ensures.failed refl)))

pub returns-in_err-put_quoted-clause-failed : goal.returns-in_err-put_quoted-clause-failed
returns-in_err-put_quoted-clause-failed g c =
    on_err _ (front_same (line_bytes c.args.path.now c.args.kind c.args.text.now)
    (front_step c.in_ok-put_path.ensures.ok refl (front_step {piece = 32 ∷ (kind_name c.args.kind ++ 32 ∷ [])} c.in_ok-put_kind.ensures.ok refl
    (front_last _ c.in_err-put_quoted.ensures.failed (ap (λ cs. encode_utf8_all (quoted cs)) c.as_str.ensures.characters)))))

pub returns-clause-ok : goal.returns-clause-ok
returns-clause-ok g c =
    on_ok_weaker c.put_all.result
    (λ grew. grown_after _ _ _ _ _ c.in_ok-put_path.ensures.ok
    (grown_after _ _ _ (32 ∷ (kind_name c.args.kind ++ 32 ∷ [])) _ c.in_ok-put_kind.ensures.ok
    (grown_after _ _ _ _ (10 ∷ []) (c.in_ok-put_quoted.ensures.ok ∙ ap (λ cs. grown (g.O.Sink.out c.put_kind.new.out) (encode_utf8_all (quoted cs))) c.as_str.ensures.characters) grew))
    ∙ ap (λ bs. grown (g.O.Sink.out c.args.out.now) bs) (line_bytes c.args.path.now c.args.kind c.args.text.now))
    c.put_all.ensures.ok

pub returns-clause-failed : goal.returns-clause-failed
returns-clause-failed g c =
    on_err_weaker c.put_all.result
    (λ front. front_same (line_bytes c.args.path.now c.args.kind c.args.text.now)
    (front_step c.in_ok-put_path.ensures.ok refl (front_step {piece = 32 ∷ (kind_name c.args.kind ++ 32 ∷ [])} c.in_ok-put_kind.ensures.ok refl
    (front_step c.in_ok-put_quoted.ensures.ok (ap (λ cs. encode_utf8_all (quoted cs)) c.as_str.ensures.characters) front))))
    c.put_all.ensures.failed
