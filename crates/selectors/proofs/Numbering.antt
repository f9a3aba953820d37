-- Numbers of the An+B notation, whose digits are read as counts: a count has more bits than they have.
use Rattle.std.proofs.Common.{◌≡◌, ℕ, Bool, true, false, List, Option, Some, None, refl, sym, ap, ◌∙◌, arith}
use Rattle.std.specs.Str.Parse.{digits_value}
use Rattle.std.proofs.Math.IntN.{ℤ}
use Rattle.std.proofs.lemmas.Int.{ints, clamps}
use Rattle.reading.specs.Reading.{◌then◌}
use Rattle.css_tokens.specs.Numbers.{signed, saturated, digits_at, saturated_at}
use Rattle.selectors.specs.AnPlusB.{signed_at, nearest_i32}

nearest_saturated : (negative : Bool) (number : ℕ) → nearest_i32 (saturated negative number) ≡ nearest_i32 (signed negative number)
nearest_saturated true number = omega (arith, ints, clamps)
nearest_saturated false number = omega (arith, ints, clamps)

abbrev some_value : ℤ × List ℕ → Option (ℤ × List ℕ)
some_value x = Some x

parts : (x y : ℤ × List ℕ) → some_value x ≡ some_value y → (x.0 ≡ y.0) × (x.1 ≡ y.1)
parts x y e = let same : x ≡ y = cc in (ap (λ (t : ℤ × List ℕ). t.0) same, ap (λ (t : ℤ × List ℕ). t.1) same)

pub signed_some : (negative : Bool) (text rest : List ℕ) (count value : ℤ) → saturated_at negative text ≡ Some (count, rest) → value ≡ nearest_i32 count → signed_at (negative, text) ≡ Some (value, rest)
signed_some negative text rest count value e v = go (digits_at text) e
  where
    go : (o : Option (List ℕ × List ℕ)) → (o then λ digits. some_value (saturated negative (digits_value 10 digits.0), digits.1)) ≡ some_value (count, rest)
        → (o then λ digits. some_value (nearest_i32 (signed negative (digits_value 10 digits.0)), digits.1)) ≡ some_value (value, rest)
    go None e = absurd cc
    go (Some digits) e =
        let p = parts (saturated negative (digits_value 10 digits.0), digits.1) (count, rest) e in
        let value_is : nearest_i32 (signed negative (digits_value 10 digits.0)) ≡ value = sym (nearest_saturated negative (digits_value 10 digits.0)) ∙ ap nearest_i32 p.0 ∙ sym v in
        rw (p.1, value_is) refl

pub signed_none : (negative : Bool) (text : List ℕ) → saturated_at negative text ≡ None → signed_at (negative, text) ≡ None
signed_none negative text e = go (digits_at text) e
  where
    go : (o : Option (List ℕ × List ℕ)) → (o then λ digits. some_value (saturated negative (digits_value 10 digits.0), digits.1)) ≡ None
        → (o then λ digits. some_value (nearest_i32 (signed negative (digits_value 10 digits.0)), digits.1)) ≡ None
    go None e = refl
    go (Some digits) e = absurd cc
