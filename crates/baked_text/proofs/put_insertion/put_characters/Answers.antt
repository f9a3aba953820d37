use Rattle.std.proofs.Common.{◌++◌, length, sym, ◌∙◌, ap, arith, encode_utf8_all}
use Rattle.std.specs.Str.{chars}
use Rattle.std.proofs.lemmas.Str.{encodes-chars}
use Rattle.ports.proofs.GrownLemmas.{on_err}
use Rattle.ports.specs.Grown.{grown}
use Rattle.baked_text.specs.Machinery.{is_straight, shown}
use Rattle.reading.proofs.Following.{Follows-length, span_follows}
use Rattle.baked_text.proofs.InsertionLemmas.{character_parts, last_parts, run_parts}
use Rattle.baked_text.proofs.OutLemmas.{went_front, went_more}
use Rattle.baked_text.proofs.SpanLemmas.{span_stops}
use Rattle.baked_text.proofs.put_insertion.put_characters.Goals as goal

pub returns-in_err-put_all-clause-failed : goal.returns-in_err-put_all-clause-failed
returns-in_err-put_all-clause-failed g c =
    let s = c.split_straight in
    let is = c.as_bytes.ensures.value ∙ sym (encodes-chars s.result.0.now s.ensures.front) in
    on_err _ (went_front _ _ _ _ _ _ _ _ c.runs.invariant.went_out c.in_err-put_all.ensures.failed is (run_parts _ _ _ _ _ c.runs.invariant.parts s.ensures.reads))

pub returns-in_default-clause-ok : goal.returns-in_default-clause-ok
returns-in_default-clause-ok g c =
    let s = c.split_straight in
    let is = c.as_bytes.ensures.value ∙ sym (encodes-chars s.result.0.now s.ensures.front) in
    went_more _ _ _ _ _ _ c.runs.invariant.went_out c.in_ok-put_all.ensures.ok is
    ∙ ap (λ t. grown (g.O.Sink.out c.args.out.now) (encode_utf8_all t)) (last_parts _ _ _ (run_parts _ _ _ _ _ c.runs.invariant.parts s.ensures.reads) c.in_default.ensures.chars)

pub written-requires : goal.written-requires
written-requires g c = span_stops _ _ _ _ (ap (λ t. t.1) c.split_straight.ensures.reads ∙ c.in-Some.ensures.chars)

pub returns-in_err-put_all-2-clause-failed : goal.returns-in_err-put_all-2-clause-failed
returns-in_err-put_all-2-clause-failed g c =
    let s = c.split_straight in
    let is = c.as_bytes.ensures.value ∙ sym (encodes-chars s.result.0.now s.ensures.front) in
    let so_far = went_more _ _ _ _ _ _ c.runs.invariant.went_out c.in_ok-put_all.ensures.ok is in
    let parts = run_parts _ _ _ _ _ c.runs.invariant.parts s.ensures.reads in
    on_err _ (went_front _ _ _ _ _ _ _ _ so_far c.in_err-put_all-2.ensures.failed c.written.ensures (character_parts _ _ _ _ _ parts c.in-Some.ensures.chars))

pub runs-smaller : goal.runs-smaller
runs-smaller g c =
    omega (
      arith,
      Follows-length (span_follows is_straight (chars c.runs.rest.now)),
      ap (λ t. length t.1) c.split_straight.ensures.reads,
      ap length c.in-Some.ensures.chars,
    )

pub runs-preserved : goal.runs-preserved
runs-preserved g c =
    let s = c.split_straight in
    let is = c.as_bytes.ensures.value ∙ sym (encodes-chars s.result.0.now s.ensures.front) in
    let so_far = went_more _ _ _ _ _ _ c.runs.invariant.went_out c.in_ok-put_all.ensures.ok is in
    let parts = run_parts _ _ _ _ _ c.runs.invariant.parts s.ensures.reads in
    record {
      utf8 = c.in-Some.ensures.text;
      front = (c.runs.invariant.front ++ chars s.result.0.now) ++ shown c.in-Some.c;
      parts = character_parts _ _ _ _ _ parts c.in-Some.ensures.chars;
      went_out = went_more _ _ _ _ _ _ so_far c.in_ok-put_all-2.ensures.ok c.written.ensures;
      later = omega (arith, c.in_ok-put_all.ensures.cause.later, c.in_ok-put_all-2.ensures.cause.later, c.runs.invariant.later);
    }
