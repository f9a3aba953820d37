use Rattle.std.proofs.Common.{◌≡◌, [], false, sym, ◌∙◌, refl}
use Rattle.std.specs.Str.{chars}
use Rattle.reading.specs.Reading.{span}
use Rattle.reading.specs.Characters.{is_digit}
use Rattle.css_tokens.proofs.Digits.{decimal_more, decimal_end}
use Rattle.css_tokens.proofs.numbers.digit_run.Goals as goal
use Rattle.css_tokens.proofs.numbers.digit_run.Goals.{in-Some+then-not-is_digit, in_default}

pub digits-preserved : goal.digits-preserved
digits-preserved c = record {
  utf8 = c.in-Some.ensures.text;
  counts = decimal_more _ _ _ c.in-Some.first _ _ c.digits.invariant.counts c.in-Some.ensures.chars (sym c.is_digit.ensures.digit ∙ c.if-not-is_digit.false)
      (c.saturating_add-number.ensures ∙ rw (c.saturating_mul.ensures, c.digit_value.ensures) refl);
}

pub returns-clause-number : goal.returns-clause-number
unfolding span
returns-clause-number c =
    let stops : span is_digit (chars c.digits.rest.now) ≡ ([], chars c.digits.rest.now) =
    elim c.match-first_char.branch [
      | in-Some+then-not-is_digit w ↦ (let no : is_digit w.in-Some.first ≡ false = sym w.is_digit.ensures.digit ∙ w.if-not-is_digit.true in rw (w.in-Some.ensures.chars, no) refl)
      | in_default w ↦ rw w.in_default.ensures.chars refl
    ] in
    (decimal_end (chars c.args.text.now) c.digits.number (chars c.digits.rest.now) c.digits.invariant.counts stops).0

pub returns-clause-rest : goal.returns-clause-rest
unfolding span
returns-clause-rest c =
    let stops : span is_digit (chars c.digits.rest.now) ≡ ([], chars c.digits.rest.now) =
    elim c.match-first_char.branch [
      | in-Some+then-not-is_digit w ↦ (let no : is_digit w.in-Some.first ≡ false = sym w.is_digit.ensures.digit ∙ w.if-not-is_digit.true in rw (w.in-Some.ensures.chars, no) refl)
      | in_default w ↦ rw w.in_default.ensures.chars refl
    ] in
    (decimal_end (chars c.args.text.now) c.digits.number (chars c.digits.rest.now) c.digits.invariant.counts stops).1
