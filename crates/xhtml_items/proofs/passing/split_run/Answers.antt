use Rattle.std.proofs.Common.{◌≡◌, [], false, length, refl, sym, ◌∙◌, ap, arith}
use Rattle.std.specs.Str.{chars}
use Rattle.std.specs.Char.{encode_utf8}
use Rattle.std.proofs.lemmas.List.{length-append}
use Rattle.std.proofs.lemmas.Str.{length-encode, len_utf8_bounds}
use Rattle.reading.specs.Reading.{span}
use Rattle.xhtml_items.specs.Classes.{is_of_class}
use Rattle.xhtml_items.proofs.Cuts.{Cut-boundary, Runs-start, Runs-more, Runs-end}
use Rattle.xhtml_items.proofs.PassLaws.{Runs-over, text_passes}
use Rattle.xhtml_items.proofs.passing.split_run.Goals as goal
use Rattle.xhtml_items.proofs.passing.split_run.Goals.{in-Some+then-not-contains, in_default}

pub loop-c-init : goal.loop-c-init
loop-c-init c = record {
  utf8 = c.split_at_stop.ensures.text;
  runs =
      Runs-over (is_of_class c.args.class) c.args.text.now c.args.text.now c.split_at_stop.result.0.now _ (Runs-start (is_of_class c.args.class) c.args.text.now) c.split_at_stop.ensures.bytes c.split_at_stop.ensures.front
      (text_passes c.args.stops.now (is_of_class c.args.class) c.requires.tells c.split_at_stop.result.0.now c.split_at_stop.ensures.front c.split_at_stop.ensures.passed);
}

pub loop-c-smaller : goal.loop-c-smaller
loop-c-smaller c =
    omega (
      arith,
      ap length c.in-Some.ensures.bytes,
      length-append (encode_utf8 c.in-Some.c) c.in-Some.after.now,
      length-encode c.in-Some.c,
      (len_utf8_bounds c.in-Some.c).0,
      ap length c.split_at_stop-in-Some.ensures.bytes,
      length-append c.split_at_stop-in-Some.result.0.now c.split_at_stop-in-Some.result.1.now,
    )

pub loop-c-preserved : goal.loop-c-preserved
loop-c-preserved c =
    let one = Runs-more (is_of_class c.args.class) _ _ c.in-Some.c c.in-Some.after.now c.loop-c.invariant.runs c.in-Some.ensures.bytes c.in-Some.ensures.chars (sym c.contains.ensures ∙ c.if-not-contains.false) in
    record {
      utf8 = c.split_at_stop-in-Some.ensures.text;
      runs =
          Runs-over (is_of_class c.args.class) c.args.text.now c.in-Some.after.now c.split_at_stop-in-Some.result.0.now _ one c.split_at_stop-in-Some.ensures.bytes c.split_at_stop-in-Some.ensures.front
          (text_passes c.args.stops.now (is_of_class c.args.class) c.requires.tells c.split_at_stop-in-Some.result.0.now c.split_at_stop-in-Some.ensures.front c.split_at_stop-in-Some.ensures.passed);
    }

pub split_at-requires : goal.split_at-requires
split_at-requires c = let runs = c.loop-c.invariant.runs in Cut-boundary c.args.text.now runs.front c.loop-c.rest.now runs.cut c.loop-c.invariant.utf8

pub returns-clause-reads : goal.returns-clause-reads
unfolding span
returns-clause-reads c =
    let stops : span (is_of_class c.args.class) (chars c.loop-c.rest.now) ≡ ([], chars c.loop-c.rest.now) =
    elim c.match-first_char.branch [
      | in-Some+then-not-contains w ↦ (let stop : is_of_class c.args.class w.in-Some.c ≡ false = sym w.contains.ensures ∙ w.if-not-contains.true in rw (w.in-Some.ensures.chars, stop) refl)
      | in_default w ↦ rw w.in_default.ensures.chars refl
    ] in
    let whole = Runs-end (is_of_class c.args.class) c.args.text.now c.loop-c.rest.now c.loop-c.invariant.runs c.utf8.text c.loop-c.invariant.utf8 stops in
    rw (c.split_at.ensures.front, c.split_at.ensures.back) whole
