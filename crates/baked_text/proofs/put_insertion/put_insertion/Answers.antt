use Rattle.std.proofs.Common.{◌++◌, refl, sym, ap, ◌∙◌, codes, encode_utf8_all}
use Rattle.std.specs.Str.{chars}
use Rattle.std.proofs.lemmas.Result.{on_err_weaker, on_ok_weaker}
use Rattle.std.proofs.lemmas.Str.{encodes-chars}
use Rattle.ports.proofs.GrownLemmas.{front_last, front_same, front_step, grown_after, on_err}
use Rattle.ports.specs.Grown.{grown}
use Rattle.baked_text.proofs.InsertionLemmas.{insertion_bytes}
use Rattle.baked_text.proofs.put_insertion.put_insertion.Goals as goal

pub returns-in_err-put_between-clause-failed : goal.returns-in_err-put_between-clause-failed
returns-in_err-put_between-clause-failed g c =
    let front = c.prefix-front in
    let is = sym (encodes-chars front.result.now front.ensures.text) ∙ ap encode_utf8_all front.ensures.prefix in
    on_err _ (front_same (insertion_bytes (chars c.args.name.now) (chars c.args.text.now) front.result.now c.args.kind is)
    (front_last _ c.in_err-put_between.ensures.failed (ap (λ t. codes "<" ++ (front.result.now ++ t)) c.start_tag_end.ensures)))

pub returns-in_err-put_characters-clause-failed : goal.returns-in_err-put_characters-clause-failed
returns-in_err-put_characters-clause-failed g c =
    let front = c.prefix-front in
    let is = sym (encodes-chars front.result.now front.ensures.text) ∙ ap encode_utf8_all front.ensures.prefix in
    on_err _ (front_same (insertion_bytes (chars c.args.name.now) (chars c.args.text.now) front.result.now c.args.kind is)
    (front_step c.in_ok-put_between.ensures.ok (ap (λ t. codes "<" ++ (front.result.now ++ t)) c.start_tag_end.ensures)
    (front_last _ c.in_err-put_characters.ensures.failed refl)))

pub returns-clause-ok : goal.returns-clause-ok
returns-clause-ok g c =
    let front = c.prefix-front in
    let is = sym (encodes-chars front.result.now front.ensures.text) ∙ ap encode_utf8_all front.ensures.prefix in
    on_ok_weaker c.put_between-2.result
    (λ grew.
    grown_after _ _ _ _ _ (c.in_ok-put_between.ensures.ok ∙ ap (λ t. grown (g.O.Sink.out c.args.out.now) (codes "<" ++ (front.result.now ++ t))) c.start_tag_end.ensures)
    (grown_after _ _ _ _ _ c.in_ok-put_characters.ensures.ok grew)
    ∙ ap (λ bs. grown (g.O.Sink.out c.args.out.now) bs) (insertion_bytes (chars c.args.name.now) (chars c.args.text.now) front.result.now c.args.kind is))
    c.put_between-2.ensures.ok

pub returns-clause-failed : goal.returns-clause-failed
returns-clause-failed g c =
    let front = c.prefix-front in
    let is = sym (encodes-chars front.result.now front.ensures.text) ∙ ap encode_utf8_all front.ensures.prefix in
    on_err_weaker c.put_between-2.result
    (λ grows. front_same (insertion_bytes (chars c.args.name.now) (chars c.args.text.now) front.result.now c.args.kind is)
    (front_step c.in_ok-put_between.ensures.ok (ap (λ t. codes "<" ++ (front.result.now ++ t)) c.start_tag_end.ensures)
    (front_step c.in_ok-put_characters.ensures.ok refl grows)))
    c.put_between-2.ensures.failed
