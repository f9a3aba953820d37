use Rattle.std.proofs.Common.{◌++◌, not, eqb, length, sym, ◌∙◌, ap, arith}
use Rattle.std.specs.Str.{chars}
use Rattle.std.specs.Char.{encode_utf8}
use Rattle.std.proofs.lemmas.List.{length-append}
use Rattle.std.proofs.lemmas.Str.{chars-nil, length-encode, len_utf8_bounds}
use Rattle.reading.specs.Reading.{span}
use Rattle.xhtml_items.proofs.Cuts.{Cut-boundary, Cut-front, Cut-more, Runs-more}
use Rattle.baked_text.proofs.SpanLemmas.{other, prefix_found, prefix_none}
use Rattle.baked_text.proofs.put_insertion.prefix.Goals as goal

pub split_at-requires : goal.split_at-requires
split_at-requires c =
    let runs = c.loop-c.invariant.runs in
    let cut = Cut-more c.args.name.now runs.front c.loop-c.rest.now c.in-Some.c c.in-Some.after.now runs.cut c.in-Some.ensures.bytes c.in-Some.ensures.chars in
    Cut-boundary c.args.name.now _ c.in-Some.after.now cut c.in-Some.ensures.text

pub returns-then-c-eq58-clause-prefix : goal.returns-then-c-eq58-clause-prefix
returns-then-c-eq58-clause-prefix c =
    let runs = c.loop-c.invariant.runs in
    let cut = Cut-more c.args.name.now runs.front c.loop-c.rest.now c.in-Some.c c.in-Some.after.now runs.cut c.in-Some.ensures.bytes c.in-Some.ensures.chars in
    ap chars c.split_at.ensures.front ∙ Cut-front c.args.name.now _ c.in-Some.after.now cut c.in-Some.ensures.text c.utf8.name
    ∙ sym (prefix_found (chars c.args.name.now) runs.front c.in-Some.c (chars c.in-Some.after.now) c.if-c-eq58.true
    (runs.span_is ∙ ap (λ t. (runs.front ++ (span (λ d. not (eqb d 58)) t).0, (span (λ d. not (eqb d 58)) t).1)) c.in-Some.ensures.chars))

pub loop-c-smaller : goal.loop-c-smaller
loop-c-smaller c =
    omega (arith, ap length c.in-Some.ensures.bytes, length-append (encode_utf8 c.in-Some.c) c.in-Some.after.now, length-encode c.in-Some.c, (len_utf8_bounds c.in-Some.c).0)

pub loop-c-preserved : goal.loop-c-preserved
loop-c-preserved c = record {
  utf8 = c.in-Some.ensures.text;
  runs = Runs-more (λ d. not (eqb d 58)) _ _ c.in-Some.c c.in-Some.after.now c.loop-c.invariant.runs c.in-Some.ensures.bytes c.in-Some.ensures.chars (ap not (other c.in-Some.c 58 c.if-c-eq58.false));
}

pub returns-clause-prefix : goal.returns-clause-prefix
unfolding span
returns-clause-prefix c =
    let runs = c.loop-c.invariant.runs in
    chars-nil ∙ sym (prefix_none (chars c.args.name.now) (ap (λ t. t.1) runs.span_is ∙ ap (λ t. (span (λ d. not (eqb d 58)) t).1) c.in_default.ensures.chars))
