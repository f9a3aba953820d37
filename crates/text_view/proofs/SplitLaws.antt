-- Texts that are split at the first byte of a class, or outside it.
use Rattle.std.proofs.Common.{◌≡◌, ◌≤◌, ◌<◌, ℕ, zero, suc, Bool, true, false, not, ◌&&◌, List, [], ◌∷◌, length, take, drop, Option, None, Some, unwrap_or, refl, sym, ap, ap₂, ◌∙◌, arith, inl, inr, add-one, drop-cons, get_or}
use Rattle.std.specs.List.{list_all, list_any, position, position_or_len}
use Rattle.std.specs.Prelude.{SomeIff}
use Rattle.std.proofs.lemmas.Bool.{cases_lt, cond-true, cond-false, le-ltb, lt-ltb, or_parts}
use Rattle.std.proofs.lemmas.Bool.Decides.{nat_tests}
use Rattle.std.proofs.lemmas.List.{drop_all}
use Rattle.std.proofs.lemmas.List.Folds.{list_any_more}
use Rattle.std.proofs.lemmas.List.Sums.{fails_before_first, passes_at_first, prefix_len-le-length}
use Rattle.lane_class.specs.Ranges.{is_in, is_outside}
use Rattle.text_view.specs.Lines.{is_blank}
use Rattle.text_view.specs.Machinery.Writing.{blank_ranges, is_word_end}

-- the class that was made
pub made : (ranges : List (ℕ × ℕ)) (made : Option (List (ℕ × ℕ))) (class : List (ℕ × ℕ)) → SomeIff made (length ranges ≤ 8) ranges → made ≡ Some class → class ≡ ranges
made ranges None class h e = absurd (let clash = e in cc)
made ranges (Some x) class h e = (let same = e in cc) ∙ h.1

in_blanks : (byte : ℕ) → is_in blank_ranges byte ≡ is_blank byte
in_blanks byte = grind (arith, nat_tests)

-- the class of the blanks tells them
in_blanks_same : is_in blank_ranges ≡ is_blank
in_blanks_same = λ i byte. in_blanks byte i

not_false : (b : Bool) → not b ≡ false → b ≡ true
not_false true e = refl
not_false false e = sym e

all_of_none : (p : ℕ → Bool) (bytes : List ℕ) → list_any (λ b. not (p b)) bytes ≡ false → list_all p bytes ≡ true
all_of_none p [] none = refl
all_of_none p (b ∷ bytes) none =
    let parts = or_parts (not (p b)) (list_any (λ b. not (p b)) bytes) none in
    ap₂ (λ first rest. first && rest) (not_false (p b) parts.0) (all_of_none p bytes parts.1)

first_place : (p : ℕ → Bool) (bytes : List ℕ) → unwrap_or (position p bytes) (length bytes) ≡ position_or_len p bytes
first_place p bytes = elim (cases_lt (position_or_len p bytes) (length bytes)) [
  | inl lt ↦ ap (λ (place : Option ℕ). unwrap_or place (length bytes)) (cond-true _ _ _ (lt-ltb (position_or_len p bytes) (length bytes) lt))
  | inr ge ↦
      ap (λ (place : Option ℕ). unwrap_or place (length bytes)) (cond-false _ _ _ (le-ltb (position_or_len p bytes) (length bytes) ge))
      ∙ (let same : length bytes ≡ position_or_len p bytes = omega (arith, prefix_len-le-length (λ b. not (p b)) bytes) in same)
]

none_before : (p : ℕ → Bool) (bytes : List ℕ) (n : ℕ) → n ≤ position_or_len p bytes → list_any p (take n bytes) ≡ false
none_before p [] zero le = refl
none_before p (b ∷ bytes) zero le = refl
none_before p bytes (suc n) le =
    let within : n < length bytes = omega (arith, prefix_len-le-length (λ b. not (p b)) bytes) in
    let here : p (get_or bytes n 0) ≡ false = fails_before_first p bytes n 0 (omega arith) in
    rw (← add-one) (list_any_more p bytes n 0 within ∙ rw (none_before p bytes n (omega arith), here) refl)

-- what begins at the first place
begins_at_first : (bytes : List ℕ) → is_word_end (drop (position_or_len is_blank bytes) bytes) ≡ true
begins_at_first bytes = elim (cases_lt (position_or_len is_blank bytes) (length bytes)) [
  | inl lt ↦ ap is_word_end (drop-cons bytes (position_or_len is_blank bytes) 0 lt) ∙ passes_at_first is_blank bytes 0 lt
  | inr ge ↦ ap is_word_end (drop_all (position_or_len is_blank bytes) bytes ge)
]

module _ (class : List (ℕ × ℕ)) (bytes : List ℕ) (found : Option ℕ) (place : ℕ) (is : class ≡ blank_ranges) (at : place ≡ unwrap_or found (length bytes)) where
  first_blank : found ≡ position (is_in class) bytes → place ≡ position_or_len is_blank bytes
  first_blank e =
      at ∙ ap (λ (o : Option ℕ). unwrap_or o (length bytes)) e ∙ first_place (is_in class) bytes
      ∙ ap (λ (p : ℕ → Bool). position_or_len p bytes) (ap (λ (ranges : List (ℕ × ℕ)). is_in ranges) is ∙ in_blanks_same)

  pub word_before : (front : List ℕ) → found ≡ position (is_in class) bytes → front ≡ take place bytes → list_any is_blank front ≡ false
  word_before front e f =
      ap (list_any is_blank) (f ∙ ap (λ n. take n bytes) (first_blank e)) ∙ none_before is_blank bytes (position_or_len is_blank bytes) (omega arith)

  pub blank_after : (rest : List ℕ) → found ≡ position (is_in class) bytes → rest ≡ drop place bytes → is_word_end rest ≡ true
  blank_after rest e r = ap is_word_end (r ∙ ap (λ n. drop n bytes) (first_blank e)) ∙ begins_at_first bytes

  first_solid : found ≡ position (is_outside class) bytes → place ≡ position_or_len (λ b. not (is_blank b)) bytes
  first_solid e =
      at ∙ ap (λ (o : Option ℕ). unwrap_or o (length bytes)) e ∙ first_place (is_outside class) bytes
      ∙ ap (λ (p : ℕ → Bool). position_or_len (λ b. not (p b)) bytes) (ap (λ (ranges : List (ℕ × ℕ)). is_in ranges) is ∙ in_blanks_same)

  pub blanks_before : (front : List ℕ) → found ≡ position (is_outside class) bytes → front ≡ take place bytes → list_all is_blank front ≡ true
  blanks_before front e f =
      all_of_none is_blank front (ap (list_any (λ b. not (is_blank b))) (f ∙ ap (λ n. take n bytes) (first_solid e))
      ∙ none_before (λ b. not (is_blank b)) bytes (position_or_len (λ b. not (is_blank b)) bytes) (omega arith))
