use Rattle.std.proofs.Common.{◌∷◌, [], ◌++◌, ◌∙◌, codes, ap, refl, rules, w64, encode_utf8_all}
use Rattle.std.proofs.lemmas.Int.{to_z-of_z}
use Rattle.std.specs.Fmt.{signed_decimal}
use Rattle.ports.specs.Grown.{grown}
use Rattle.ports.proofs.GrownLemmas.{front_last, front_same, front_step, grown_after, on_err}
use Rattle.dump_definitions.specs.Dump.{kind_name, path_text, quoted}
use Rattle.why_report.proofs.CounterLaws.{counter_bytes}
use Rattle.why_report.proofs.counters.put_counter.Goals as goal

pub returns-in_err-put_all-clause-failed : goal.returns-in_err-put_all-clause-failed
returns-in_err-put_all-clause-failed g c =
    on_err _ (front_same (counter_bytes c.args.arena.now.tree c.args.counter.now)
    (front_last {piece = codes "counter "} _ c.in_err-put_all.ensures.failed refl))

pub returns-in_err-put_quoted-clause-failed : goal.returns-in_err-put_quoted-clause-failed
returns-in_err-put_quoted-clause-failed g c =
    on_err _ (front_same (counter_bytes c.args.arena.now.tree c.args.counter.now)
    (front_step {piece = codes "counter "} c.in_ok-put_all.ensures.ok refl
    (front_last _ c.in_err-put_quoted.ensures.failed (ap (λ cs. encode_utf8_all (quoted cs)) c.as_str.ensures.characters))))

pub returns-in_err-put_all-2-clause-failed : goal.returns-in_err-put_all-2-clause-failed
returns-in_err-put_all-2-clause-failed g c =
    on_err _ (front_same (counter_bytes c.args.arena.now.tree c.args.counter.now)
    (front_step {piece = codes "counter "} c.in_ok-put_all.ensures.ok refl
    (front_step c.in_ok-put_quoted.ensures.ok (ap (λ cs. encode_utf8_all (quoted cs)) c.as_str.ensures.characters)
    (front_last {piece = 32 ∷ []} _ c.in_err-put_all-2.ensures.failed refl))))

pub returns-in_err-put_path-clause-failed : goal.returns-in_err-put_path-clause-failed
returns-in_err-put_path-clause-failed g c =
    on_err _ (front_same (counter_bytes c.args.arena.now.tree c.args.counter.now)
    (front_step {piece = codes "counter "} c.in_ok-put_all.ensures.ok refl
    (front_step c.in_ok-put_quoted.ensures.ok (ap (λ cs. encode_utf8_all (quoted cs)) c.as_str.ensures.characters)
    (front_step {piece = 32 ∷ []} c.in_ok-put_all-2.ensures.ok refl
    (front_last _ c.in_err-put_path.ensures.failed (ap (λ path. encode_utf8_all (path_text path)) (c.as_slice.ensures.steps ∙ c.in_ok-path.ensures.path)))))))

pub returns-in_err-put_kind-clause-failed : goal.returns-in_err-put_kind-clause-failed
returns-in_err-put_kind-clause-failed g c =
    on_err _ (front_same (counter_bytes c.args.arena.now.tree c.args.counter.now)
    (front_step {piece = codes "counter "} c.in_ok-put_all.ensures.ok refl
    (front_step c.in_ok-put_quoted.ensures.ok (ap (λ cs. encode_utf8_all (quoted cs)) c.as_str.ensures.characters)
    (front_step {piece = 32 ∷ []} c.in_ok-put_all-2.ensures.ok refl
    (front_step c.in_ok-put_path.ensures.ok (ap (λ path. encode_utf8_all (path_text path)) (c.as_slice.ensures.steps ∙ c.in_ok-path.ensures.path))
    (front_last {piece = 32 ∷ (kind_name c.args.counter.now.creator.kind ++ 32 ∷ [])} _ c.in_err-put_kind.ensures.failed refl))))))

pub returns-in_err-put_value-clause-failed : goal.returns-in_err-put_value-clause-failed
returns-in_err-put_value-clause-failed g c =
    on_err _ (front_same (counter_bytes c.args.arena.now.tree c.args.counter.now)
    (front_step {piece = codes "counter "} c.in_ok-put_all.ensures.ok refl
    (front_step c.in_ok-put_quoted.ensures.ok (ap (λ cs. encode_utf8_all (quoted cs)) c.as_str.ensures.characters)
    (front_step {piece = 32 ∷ []} c.in_ok-put_all-2.ensures.ok refl
    (front_step c.in_ok-put_path.ensures.ok (ap (λ path. encode_utf8_all (path_text path)) (c.as_slice.ensures.steps ∙ c.in_ok-path.ensures.path))
    (front_step {piece = 32 ∷ (kind_name c.args.counter.now.creator.kind ++ 32 ∷ [])} c.in_ok-put_kind.ensures.ok refl
    (front_same (ap (λ value. encode_utf8_all (signed_decimal value ++ 10 ∷ [])) (to_z-of_z w64 c.args.counter.now.value (search rules))) c.in_err-put_value.ensures.failed)))))))

pub returns-clause-ok : goal.returns-clause-ok
returns-clause-ok g c =
    grown_after _ _ _ (codes "counter ") _ c.in_ok-put_all.ensures.ok
    (grown_after _ _ _ _ _ (c.in_ok-put_quoted.ensures.ok ∙ ap (λ cs. grown (g.O.Sink.out c.put_all.new.out) (encode_utf8_all (quoted cs))) c.as_str.ensures.characters)
    (grown_after _ _ _ (32 ∷ []) _ c.in_ok-put_all-2.ensures.ok
    (grown_after _ _ _ _ _ (c.in_ok-put_path.ensures.ok ∙ ap (λ path. grown (g.O.Sink.out c.put_all-2.new.out) (encode_utf8_all (path_text path))) (c.as_slice.ensures.steps ∙ c.in_ok-path.ensures.path))
    (grown_after _ _ _ (32 ∷ (kind_name c.args.counter.now.creator.kind ++ 32 ∷ [])) _ c.in_ok-put_kind.ensures.ok
    (c.in_ok-put_value.ensures.ok ∙ ap (λ value. grown (g.O.Sink.out c.put_kind.new.out) (encode_utf8_all (signed_decimal value ++ 10 ∷ []))) (to_z-of_z w64 c.args.counter.now.value (search rules)))))))
    ∙ ap (grown (g.O.Sink.out c.args.out.now)) (counter_bytes c.args.arena.now.tree c.args.counter.now)
