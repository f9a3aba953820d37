use Rattle.std.proofs.Common.{arith, length, ◌∙◌, ap, eq-eqb, ne_eqb}
use Rattle.std.specs.Str.{chars}
use Rattle.std.proofs.lemmas.List.{length-drop}
use Rattle.xhtml_reader.proofs.Lines.{chars_le}
use Rattle.xhtml_reader.proofs.Lines.{Counts-end, Counts-more, drop_next}
use Rattle.xhtml_reader.proofs.place.place_of.Goals as goal
use Rattle.xhtml_reader.proofs.place.place_of.Goals.{in-Some+then-c-eq10, in-Some+else-c-eq10, in_default}

pub overflow_add-line : goal.overflow_add-line
overflow_add-line c = omega (arith, chars_le c.args.text.now c.utf8.text)

pub overflow_add-column : goal.overflow_add-column
overflow_add-column c = omega (arith, chars_le c.args.text.now c.utf8.text)

pub loop-preserved : goal.loop-preserved
loop-preserved c =
    let inv = c.loop.invariant in
    let cs = chars c.args.text.now in
    elim c.match-first_char.branch [
      | in-Some+then-c-eq10 w ↦ (
          let e = inv.left_is ∙ w.in-Some.ensures.chars in
          rw (w.left-is, w.line-is, w.column-is) (record {
            utf8 = w.in-Some.ensures.text;
            left_is = drop_next cs c.loop.counter w.in-Some.c (chars w.in-Some.after.now) e;
            counts = Counts-end cs c.loop.counter c.loop.line c.loop.column w.in-Some.c (chars w.in-Some.after.now) inv.counts e (eq-eqb w.in-Some.c 10 w.if-c-eq10.true);
          }))
      | in-Some+else-c-eq10 w ↦ (
          let e = inv.left_is ∙ w.in-Some.ensures.chars in
          rw (w.left-is, w.line-is, w.column-is) (record {
            utf8 = w.in-Some.ensures.text;
            left_is = drop_next cs c.loop.counter w.in-Some.c (chars w.in-Some.after.now) e;
            counts = Counts-more cs c.loop.counter c.loop.line c.loop.column w.in-Some.c (chars w.in-Some.after.now) inv.counts e (ne_eqb w.in-Some.c 10 w.if-c-eq10.false);
          }))
      | in_default w ↦ absurd (let none = inv.left_is ∙ w.in_default.ensures.chars in omega (arith, ap length none, length-drop c.loop.counter cs, c.char_count.ensures))
    ]
