-- The greatest of a list: it is in the list, and it is high where one of the list is, if what is high is above all else.
use Rattle.std.proofs.Common.{◌≡◌, ◌||◌, Bool, true, false, if◌then◌else◌, List, [], ◌∷◌, Option, Some, None, refl, inl, inr}
use Rattle.std.proofs.lemmas.Bool.{and_parts, cases_Bool}
use Rattle.std.specs.List.{list_all, list_any}
use Rattle.std.specs.Option.{option_map_or}
use Rattle.mini_cascade.specs.Greatest.{greater, greatest}

module _ {X : Type 0} (is_less : X → X → Bool) where
  either : (p : X → Bool) (less : Bool) (first second : X) → p first ≡ true → p second ≡ true → p (if less then first else second) ≡ true
  either p true first second one other = one
  either p false first second one other = other

  -- a test that all pass, the greatest passes, where there is one
  pub greatest_passes : (p : X → Bool) (xs : List X) → list_all p xs ≡ true → option_map_or p (greatest is_less xs) true ≡ true
  greatest_passes p [] all = refl
  greatest_passes p (x ∷ xs) all =
      let parts = and_parts (p x) (list_all p xs) all in
      of_both (greatest is_less xs) (greatest_passes p xs parts.1) parts.0
    where
      of_both : (second : Option X) → option_map_or p second true ≡ true → p x ≡ true → option_map_or p (greater is_less (Some x) second) true ≡ true
      of_both None other one = one
      of_both (Some second) other one = either p (is_less second x) x second one other

  module _ (is_high : X → Bool) (above : (high low : X) → is_high high ≡ true → is_high low ≡ false → (is_less low high ≡ true) × (is_less high low ≡ false)) where
    high_first : (first second : X) → is_high first ≡ true → is_high (if is_less second first then first else second) ≡ true
    high_first first second high = elim (cases_Bool (is_high second)) [
      | inl other ↦ either is_high (is_less second first) first second high other
      | inr low ↦ rw (above first second high low).0 high
    ]

    high_second : (first second : X) → is_high second ≡ true → is_high (if is_less second first then first else second) ≡ true
    high_second first second high = elim (cases_Bool (is_high first)) [
      | inl other ↦ either is_high (is_less second first) first second other high
      | inr low ↦ rw (above second first high low).1 high
    ]

    pub greatest_is_high : (xs : List X) → list_any is_high xs ≡ true → option_map_or is_high (greatest is_less xs) false ≡ true
    greatest_is_high [] some = some
    greatest_is_high (x ∷ xs) some = elim (cases_Bool (is_high x)) [
      | inl high ↦ first_high (greatest is_less xs) high
      | inr low ↦ let rest : (false || list_any is_high xs) ≡ true = rw low at some in later_high (greatest is_less xs) (greatest_is_high xs rest)
    ]
      where
        first_high : (second : Option X) → is_high x ≡ true → option_map_or is_high (greater is_less (Some x) second) false ≡ true
        first_high None high = high
        first_high (Some second) high = high_first x second high

        later_high : (second : Option X) → option_map_or is_high second false ≡ true → option_map_or is_high (greater is_less (Some x) second) false ≡ true
        later_high None high = absurd (cc)
        later_high (Some second) high = high_second x second high
