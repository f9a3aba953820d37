-- `decimal` writes every value, and as programs write numbers.
use Rattle.std.proofs.Common.{◌≡◌, ◌+◌, ◌<◌, ◌≤◌, ◌^◌, ℕ, zero, suc, ℤ, pos, negsuc, List, [], ◌∷◌, ◌++◌, Some, cond, map, flat_map, length, refl, sym, ap, ◌∙◌, arith, append-nil, unsigned_abs, lit<, lit≤}
use Rattle.std.specs.Fmt.{decimal, signed_decimal}
use Rattle.std.specs.Int.Digits.{digits_of}
use Rattle.std.specs.List.{AllByRecursion, repeat}
use Rattle.std.specs.Option.{option_map}
use Rattle.std.proofs.lemmas.Bool.{ne_eqb, le-leb, le-ltb}
use Rattle.std.proofs.lemmas.Fmt.{decimal-digits_of, decimal_digit, length-decimal-le}
use Rattle.std.proofs.lemmas.Int.Digits.{all_below_base_digits_of}
use Rattle.plain_types.specs.Table.{decimal_style}
use Rattle.css_definitions.specs.Representation.{symbol, numeric_text, limited, padded, signed, written, missing_count}

abbrev digits : List (List ℕ)
digits = decimal_style.symbols

digit_symbol : (d : ℕ) → d < 10 → symbol digits d ≡ (48 + d) ∷ []
digit_symbol zero h = refl
digit_symbol (suc zero) h = refl
digit_symbol (suc (suc zero)) h = refl
digit_symbol (suc (suc (suc zero))) h = refl
digit_symbol (suc (suc (suc (suc zero)))) h = refl
digit_symbol (suc (suc (suc (suc (suc zero))))) h = refl
digit_symbol (suc (suc (suc (suc (suc (suc zero)))))) h = refl
digit_symbol (suc (suc (suc (suc (suc (suc (suc zero))))))) h = refl
digit_symbol (suc (suc (suc (suc (suc (suc (suc (suc zero)))))))) h = refl
digit_symbol (suc (suc (suc (suc (suc (suc (suc (suc (suc zero))))))))) h = refl
digit_symbol (suc (suc (suc (suc (suc (suc (suc (suc (suc (suc d)))))))))) h = absurd (omega arith)

digit_symbols : (ds : List ℕ) → AllByRecursion (λ d. d < 10) ds → flat_map (symbol digits) ds ≡ map (λ d. 48 + d) ds
digit_symbols [] h = refl
digit_symbols (d ∷ ds) h = ap (λ piece. piece ++ flat_map (symbol digits) ds) (digit_symbol d h.0) ∙ ap (λ rest. (48 + d) ∷ rest) (digit_symbols ds h.1)

numeric_text-decimal : (n : ℕ) → n < 2 ^ 64 → numeric_text digits n ≡ decimal n
numeric_text-decimal zero h = sym (decimal_digit 0 (lit< tt))
numeric_text-decimal (suc n) h =
    ap (λ is_zero. flat_map (symbol digits) (cond is_zero (0 ∷ []) (digits_of 10 (suc n)))) (ne_eqb (suc n) 0 (λ e. omega arith))
    ∙ digit_symbols (digits_of 10 (suc n)) (all_below_base_digits_of 10 (suc n) (lit≤ tt))
    ∙ sym (decimal-digits_of (suc n) (omega arith) h)

decimal-short : (n : ℕ) → n < 2 ^ 64 → limited (decimal n) ≡ Some (decimal n)
decimal-short n h =
    let room : 2 ^ 64 ≤ 10 ^ 20 = lit≤ tt in
    let short : length (decimal n) ≤ 20 = length-decimal-le 20 n (lit< tt) (omega (arith, room, h)) h in
    rw (le-leb (length (decimal n)) 120 (omega arith)) refl

unpadded : (value : ℤ) (text : List ℕ) → padded decimal_style value text ≡ text
unpadded value text = ap (λ n. repeat n [] ++ text) (let none : missing_count decimal_style value text ≡ 0 = omega arith in none)

signed-decimal : (value : ℤ) → signed decimal_style value (decimal (unsigned_abs value)) ≡ signed_decimal value
signed-decimal (pos n) = rw (le-ltb n 0 (omega arith)) refl
signed-decimal (negsuc n) = ap (λ text. 45 ∷ text) (append-nil (decimal (suc n)))

pub written-decimal : (value : ℤ) → unsigned_abs value < 2 ^ 64 → written decimal_style value ≡ Some (signed_decimal value)
written-decimal value h =
    ap (λ text. option_map (signed decimal_style value) (limited text)) (unpadded value (numeric_text digits (unsigned_abs value)) ∙ numeric_text-decimal (unsigned_abs value) h)
    ∙ ap (option_map (signed decimal_style value)) (decimal-short (unsigned_abs value) h)
    ∙ ap Some (signed-decimal value)
