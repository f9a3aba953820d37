-- What a style writes, from its initial text on.
use Rattle.std.proofs.Common.{◌≡◌, ℕ, ℤ, List, [], ◌++◌, Option, Some, None, true, ◌&&◌, cond, length, refl, ap, ◌∙◌, arith, append-nil, length-append, inl, inr, codes}
use Rattle.std.specs.Int.{is_negative}
use Rattle.std.specs.List.{list_any, repeat}
use Rattle.std.specs.Option.{option_map, option_and_then}
use Rattle.std.proofs.lemmas.Bool.{cases_lt, cases_Bool}
use Rattle.plain_types.specs.declared.counter_style.CounterStyle.{CounterStyle}
use Rattle.plain_types.specs.declared.style_ref.Anonymous.{Anonymous}
use Rattle.css_definitions.specs.CounterStyles.{automatic_range}
use Rattle.css_definitions.specs.Representation.{written, limited, padded, signed, initial_text, is_in_range, is_in_bounds, uses_sign, anonymous_style, missing_count}
use Rattle.representation.proofs.DraftLemmas.{limited-over, limited-within}

-- a text with something in front of it is no shorter
limited-append : (front text : List ℕ) → limited text ≡ None → limited (front ++ text) ≡ None
limited-append front text e = elim (cases_lt 120 (length text)) [
  | inl h ↦ limited-over (front ++ text) (omega (arith, length-append front text))
  | inr h ↦ let some : limited text ≡ Some text = limited-within text h in cc
]

module _ (style : CounterStyle) (value : ℤ) where
  of_initial : Option (List ℕ) → Option (List ℕ)
  of_initial initial = cond (is_in_range style value) (option_map (signed style value) (option_and_then (λ text. limited (padded style value text)) initial)) None

  too_long_of : (initial : Option (List ℕ)) → option_map limited initial ≡ Some None → of_initial initial ≡ None
  unfolding of_initial
  too_long_of None e = cc
  too_long_of (Some text) e =
      let over : limited text ≡ None = cc in
      rw (limited-append (repeat (missing_count style value text) style.pad) text over) (elim (cases_Bool (is_in_range style value)) [ inl h ↦ rw h refl | inr h ↦ rw h refl ])

  -- where the initial text is too long, so is the padded one
  pub written-too_long : option_map limited (initial_text style.system style.symbols style.weights value) ≡ Some None → written style value ≡ None
  unfolding of_initial
  written-too_long e = too_long_of (initial_text style.system style.symbols style.weights value) e

module _ (anonymous : Anonymous) (value : ℤ) where
  -- a style of `symbols()` pads nothing
  unpadded : (text : List ℕ) → padded (anonymous_style anonymous) value text ≡ text
  unpadded text = ap (λ n. repeat n [] ++ text) (let none : missing_count (anonymous_style anonymous) value text ≡ 0 = omega arith in none)

  fits_of : (initial : Option (List ℕ)) (text : List ℕ) → option_map limited initial ≡ Some (Some text)
      → option_map (signed (anonymous_style anonymous) value) (option_and_then (λ all. limited (padded (anonymous_style anonymous) value all)) initial) ≡ Some (signed (anonymous_style anonymous) value text)
  fits_of None text e = absurd (cc)
  fits_of (Some initial) text e =
      let fits : limited initial ≡ Some text = cc in
      ap (λ all. option_map (signed (anonymous_style anonymous) value) (limited all)) (unpadded initial) ∙ ap (option_map (signed (anonymous_style anonymous) value)) fits

  pub written-anonymous : (text : List ℕ) → list_any (is_in_bounds value) (automatic_range anonymous.system) ≡ true
      → option_map limited (initial_text anonymous.system anonymous.symbols [] value) ≡ Some (Some text)
      → written (anonymous_style anonymous) value ≡ Some (signed (anonymous_style anonymous) value text)
  written-anonymous text range e = rw range (fits_of (initial_text anonymous.system anonymous.symbols [] value) text e)

  pub signed-anonymous : (text : List ℕ) → (uses_sign anonymous.system && is_negative value) ≡ true → signed (anonymous_style anonymous) value text ≡ codes "-" ++ text
  signed-anonymous text e = rw e (append-nil (codes "-" ++ text))
