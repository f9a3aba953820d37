-- The number of digits, counted in 64 bits.
use Rattle.std.proofs.Common.{◌≡◌, ℕ, zero, suc, ◌+◌, ◌*◌, ◌-◌, ◌^◌, ◌<◌, min, Bool, true, false, List, [], ◌∷◌, refl, sym, ap, ◌∙◌, arith}
use Rattle.std.specs.Char.{digit_value}
use Rattle.std.specs.Str.Parse.{digits_value, digits_value_after}
use Rattle.std.proofs.lemmas.Int.{ints, clamps}
use Rattle.reading.specs.Characters.{is_digit, is_hexadecimal_digit}
use Rattle.reading.specs.Reading.{span, span_of}
use Rattle.css_tokens.specs.Numbers.{saturated}

-- The loop has counted the digits before these: of `all` the digits `here` are left.
pub record Counts (base : ℕ) (all : List ℕ × List ℕ) (value : ℕ) (here : List ℕ × List ℕ) : Type 0 where
  pub number : ℕ
  pub value_is : value ≡ min number (2 ^ 64 - 1)
  pub same : digits_value base all.0 ≡ digits_value_after base number here.0
  pub end : all.1 ≡ here.1

pub Counts-start : (base : ℕ) (all : List ℕ × List ℕ) → Counts base all 0 all
Counts-start base all = record { number = 0; value_is = refl; same = refl; end = refl }

-- one digit more
more_digit : (base : ℕ) (all : List ℕ × List ℕ) (value next c : ℕ) (here after : List ℕ × List ℕ) → ((number value next digit : ℕ) → value ≡ min number (2 ^ 64 - 1)
    → next ≡ min (min (value * base) (2 ^ 64 - 1) + digit) (2 ^ 64 - 1) → next ≡ min (number * base + digit) (2 ^ 64 - 1))
    → Counts base all value here → here.0 ≡ c ∷ after.0 → here.1 ≡ after.1 → next ≡ min (min (value * base) (2 ^ 64 - 1) + digit_value c) (2 ^ 64 - 1) → Counts base all next after
more_digit base all value next c here after step k digits rest n = record {
  number = k.number * base + digit_value c;
  value_is = step k.number value next (digit_value c) k.value_is n;
  same = k.same ∙ rw digits refl;
  end = k.end ∙ rest;
}

-- ---- decimal digits

pub decimal_more : (whole : List ℕ) (value next c : ℕ) (rest after : List ℕ) → Counts 10 (span is_digit whole) value (span is_digit rest) → rest ≡ c ∷ after → is_digit c ≡ true
    → next ≡ min (min (value * 10) (2 ^ 64 - 1) + digit_value c) (2 ^ 64 - 1) → Counts 10 (span is_digit whole) next (span is_digit after)
unfolding span
decimal_more whole value next c rest after k parts digit n = more_digit 10 _ value next c _ _ (λ number value next digit v e. omega arith) k (rw (parts, digit) refl) (rw (parts, digit) refl) n

pub decimal_end : (whole : List ℕ) (value : ℕ) (rest : List ℕ) → Counts 10 (span is_digit whole) value (span is_digit rest) → span is_digit rest ≡ ([], rest)
    → (value ≡ min (digits_value 10 (span is_digit whole).0) (2 ^ 64 - 1)) × (rest ≡ (span is_digit whole).1)
decimal_end whole value rest k stops = (k.value_is ∙ ap (λ (n : ℕ). min n (2 ^ 64 - 1)) (sym (k.same ∙ rw stops refl)), sym (k.end ∙ rw stops refl))

-- ---- hexadecimal digits

pub hex_more : (whole : List ℕ) (most fewer value next c : ℕ) (rest after : List ℕ) → Counts 16 (span_of 6 is_hexadecimal_digit whole) value (span_of most is_hexadecimal_digit rest) → most ≡ fewer + 1 → rest ≡ c ∷ after → is_hexadecimal_digit c ≡ true
    → next ≡ min (min (value * 16) (2 ^ 64 - 1) + digit_value c) (2 ^ 64 - 1) → Counts 16 (span_of 6 is_hexadecimal_digit whole) next (span_of fewer is_hexadecimal_digit after)
unfolding span_of
hex_more whole most fewer value next c rest after k m parts digit n = more_digit 16 _ value next c _ _ (λ number value next digit v e. omega arith) k (go most m).0 (go most m).1 n
  where
    go : (most : ℕ) → most ≡ fewer + 1 → ((span_of most is_hexadecimal_digit rest).0 ≡ c ∷ (span_of fewer is_hexadecimal_digit after).0) × ((span_of most is_hexadecimal_digit rest).1 ≡ (span_of fewer is_hexadecimal_digit after).1)
    go zero m = absurd (omega arith)
    go (suc most) m = let same : most ≡ fewer = omega arith in (rw (parts, digit, same) refl, rw (parts, digit, same) refl)

hex_stops : (most : ℕ) (rest : List ℕ) → ((c : ℕ) (after : List ℕ) → 0 < most → rest ≡ c ∷ after → is_hexadecimal_digit c ≡ false) → span_of most is_hexadecimal_digit rest ≡ ([], rest)
unfolding span_of
hex_stops zero rest stops = refl
hex_stops (suc most) [] stops = refl
hex_stops (suc most) (c ∷ cs) stops = let no = stops c cs (omega arith) refl in rw no refl

pub hex_end : (whole : List ℕ) (most value : ℕ) (rest : List ℕ) → Counts 16 (span_of 6 is_hexadecimal_digit whole) value (span_of most is_hexadecimal_digit rest) → ((c : ℕ) (after : List ℕ) → 0 < most → rest ≡ c ∷ after → is_hexadecimal_digit c ≡ false)
    → (value ≡ min (digits_value 16 (span_of 6 is_hexadecimal_digit whole).0) (2 ^ 64 - 1)) × (rest ≡ (span_of 6 is_hexadecimal_digit whole).1)
hex_end whole most value rest k stops = let ends = hex_stops most rest stops in
    (k.value_is ∙ ap (λ (n : ℕ). min n (2 ^ 64 - 1)) (sym (k.same ∙ rw ends refl)), sym (k.end ∙ rw ends refl))

-- ---- the value of a number

pub saturated_min : (negative : Bool) (number : ℕ) → saturated negative (min number (2 ^ 64 - 1)) ≡ saturated negative number
saturated_min true number = omega (arith, ints, clamps)
saturated_min false number = omega (arith, ints, clamps)

-- the digits as the code counts them, by a number of 64 bits
pub saturated_digits : (negative : Bool) (number : ℕ) (digits : List ℕ) → number ≡ min (digits_value 10 digits) (2 ^ 64 - 1) → saturated negative number ≡ saturated negative (digits_value 10 digits)
saturated_digits negative number digits e = ap (saturated negative) e ∙ saturated_min negative (digits_value 10 digits)
