use Rattle.std.proofs.Common.{◌≡◌, ℕ, List, ◌∷◌, sym, ◌∙◌, refl, arith}
use Rattle.std.specs.Str.{chars}
use Rattle.css_tokens.proofs.Digits.{hex_more, hex_end}
use Rattle.css_tokens.proofs.identifiers.hex_digits.Goals as goal
use Rattle.css_tokens.proofs.identifiers.hex_digits.Goals.{else-digits-test, then-digits-test+in_default, then-digits-test+in-Some+then-not-is_hexadecimal_digit}

pub digits-preserved : goal.digits-preserved
digits-preserved c = record {
  utf8 = c.in-Some.ensures.text;
  counts = hex_more _ _ _ _ _ c.in-Some.first _ _ c.digits.invariant.counts (omega arith) c.in-Some.ensures.chars (sym c.is_hexadecimal_digit.ensures ∙ c.if-not-is_hexadecimal_digit.false)
      (c.saturating_add-number.ensures ∙ rw (c.saturating_mul.ensures, c.digit_value.ensures) refl);
}

-- a digit that is a digit, and a character that is none, differ
head_is : (c d : ℕ) (cs ds rest : List ℕ) → rest ≡ c ∷ cs → rest ≡ d ∷ ds → c ≡ d
head_is c d cs ds rest p q = cc

pub returns-clause-number : goal.returns-clause-number
returns-clause-number c =
    (hex_end (chars c.args.text.now) c.digits.most c.digits.number (chars c.digits.rest.now) c.digits.invariant.counts (λ d after left e.
    elim c.digits-test.branch [
      | else-digits-test w ↦ absurd (omega arith)
      | then-digits-test+in_default w ↦ absurd (let h = w.in_default.ensures.chars in cc)
      | then-digits-test+in-Some+then-not-is_hexadecimal_digit w ↦ (let same = head_is _ _ _ _ _ e w.in-Some.ensures.chars in rw same (sym w.is_hexadecimal_digit.ensures ∙ w.if-not-is_hexadecimal_digit.true))
    ])).0

pub returns-clause-rest : goal.returns-clause-rest
returns-clause-rest c =
    (hex_end (chars c.args.text.now) c.digits.most c.digits.number (chars c.digits.rest.now) c.digits.invariant.counts (λ d after left e.
    elim c.digits-test.branch [
      | else-digits-test w ↦ absurd (omega arith)
      | then-digits-test+in_default w ↦ absurd (let h = w.in_default.ensures.chars in cc)
      | then-digits-test+in-Some+then-not-is_hexadecimal_digit w ↦ (let same = head_is _ _ _ _ _ e w.in-Some.ensures.chars in rw same (sym w.is_hexadecimal_digit.ensures ∙ w.if-not-is_hexadecimal_digit.true))
    ])).1
