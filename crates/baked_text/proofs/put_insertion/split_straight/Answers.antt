use Rattle.std.proofs.Common.{◌≡◌, [], false, length, refl, sym, ◌∙◌, ap, arith}
use Rattle.std.specs.Str.{chars}
use Rattle.std.specs.Char.{encode_utf8}
use Rattle.std.proofs.lemmas.List.{length-append}
use Rattle.std.proofs.lemmas.Str.{length-encode, len_utf8_bounds}
use Rattle.reading.specs.Reading.{span}
use Rattle.xhtml_items.proofs.Cuts.{Cut-boundary, Runs-more, Runs-end}
use Rattle.baked_text.specs.Machinery.{is_straight}
use Rattle.baked_text.proofs.put_insertion.split_straight.Goals as goal
use Rattle.baked_text.proofs.put_insertion.split_straight.Goals.{in-Some+then-not-is_straight, in_default}

pub loop-c-smaller : goal.loop-c-smaller
loop-c-smaller c =
    omega (arith, ap length c.in-Some.ensures.bytes, length-append (encode_utf8 c.in-Some.c) c.in-Some.after.now, length-encode c.in-Some.c, (len_utf8_bounds c.in-Some.c).0)

pub loop-c-preserved : goal.loop-c-preserved
loop-c-preserved c = record {
  utf8 = c.in-Some.ensures.text;
  runs = Runs-more is_straight _ _ c.in-Some.c c.in-Some.after.now c.loop-c.invariant.runs c.in-Some.ensures.bytes c.in-Some.ensures.chars (sym c.is_straight.ensures ∙ c.if-not-is_straight.false);
}

pub split_at-requires : goal.split_at-requires
split_at-requires c = let runs = c.loop-c.invariant.runs in Cut-boundary c.args.text.now runs.front c.loop-c.rest.now runs.cut c.loop-c.invariant.utf8

pub returns-clause-reads : goal.returns-clause-reads
unfolding span
returns-clause-reads c =
    let stops : span is_straight (chars c.loop-c.rest.now) ≡ ([], chars c.loop-c.rest.now) =
    elim c.match-first_char.branch [
      | in-Some+then-not-is_straight w ↦ (let stop : is_straight w.in-Some.c ≡ false = sym w.is_straight.ensures ∙ w.if-not-is_straight.true in rw (w.in-Some.ensures.chars, stop) refl)
      | in_default w ↦ rw w.in_default.ensures.chars refl
    ] in
    let whole = Runs-end is_straight c.args.text.now c.loop-c.rest.now c.loop-c.invariant.runs c.utf8.text c.loop-c.invariant.utf8 stops in
    rw (c.split_at.ensures.front, c.split_at.ensures.back) whole
