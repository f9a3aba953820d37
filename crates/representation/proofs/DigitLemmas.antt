-- Digits, and texts that are written from the last digit to the first.
use Rattle.std.proofs.Common.{◌≡◌, ◌<◌, ◌≤◌, ◌-◌, ◌/◌, ◌%◌, ℕ, zero, suc, List, [], ◌∷◌, ◌++◌, Option, length, length-append, get_or, reverse, refl, sym, ap, ◌∙◌, arith, append_assoc, flat_map, cond, All, inl, inr}
use Rattle.std.specs.List.{repeat}
use Rattle.std.proofs.lemmas.List.Elements.{All-append, All-cons}
use Rattle.std.proofs.lemmas.List.{reverse-append, get_or_default}
use Rattle.std.proofs.lemmas.Grind.{common_steps}
use Rattle.std.proofs.Math.Seq.{get_or-append_seam}
use Rattle.std.proofs.lemmas.Bool.{cases_lt, ne_eqb, eq-eqb}
use Rattle.std.proofs.lemmas.Nat.{div-add-mod', mul-le}
use Rattle.css_definitions.specs.Representation.{symbol, bijective_digits, bijective_digits_within}
use Rattle.representation.specs.Draft.{extended}
use Rattle.representation.proofs.DraftLemmas.{extended-append, repeat-one}

reverse-push : {A : Type 0} (xs : List A) (x : A) → reverse (xs ++ x ∷ []) ≡ x ∷ reverse xs
reverse-push xs x = reverse-append xs (x ∷ [])

pub symbol_at : (symbols : List (List ℕ)) (digit : ℕ) (found : List ℕ) → digit < length symbols → found ≡ get_or symbols digit found → found ≡ symbol symbols digit
symbol_at symbols digit found h e = e ∙ get_or_default symbols digit found [] h

-- one digit is written
pub writes_digit : (symbols : List (List ℕ)) (old new final : Option (List ℕ)) (digits rest : List ℕ) (digit : ℕ) (piece : List ℕ) → digits ≡ rest ++ digit ∷ [] → piece ≡ symbol symbols digit → new ≡ extended old (repeat 1 piece) → extended old (flat_map (symbol symbols) (reverse digits)) ≡ final → extended new (flat_map (symbol symbols) (reverse rest)) ≡ final
writes_digit symbols old new final digits rest digit piece e p n f = rw (n, p, repeat-one (symbol symbols digit), extended-append) (ap (λ ds. extended old (flat_map (symbol symbols) ds)) (sym (ap reverse e ∙ reverse-push rest digit)) ∙ f)

digits_none : (within base n : ℕ) → n ≡ 0 → bijective_digits_within within base n ≡ []
digits_none zero base n e = refl
digits_none (suc within) base n e = ap (λ t. cond t [] (bijective_digits_within within base ((n - 1) / base) ++ ((n - 1) % base ∷ []))) (eq-eqb n 0 e)

digits_some : (within base n : ℕ) → 0 < n → bijective_digits_within (suc within) base n ≡ bijective_digits_within within base ((n - 1) / base) ++ ((n - 1) % base ∷ [])
digits_some within base zero h = absurd (omega arith)
digits_some within base (suc m) h = ap (λ t. cond t [] (bijective_digits_within within base ((suc m - 1) / base) ++ ((suc m - 1) % base ∷ []))) (ne_eqb (suc m) 0 (λ e. omega arith))

digit_falls : (base n : ℕ) → 2 ≤ base → 0 < n → (n - 1) / base < n
digit_falls base n two h = omega (arith, div-add-mod' (n - 1) base, mul-le ((n - 1) / base) 2 ((n - 1) / base) base (omega arith) two)

digits_same : (within within' base n : ℕ) → 2 ≤ base → n ≤ within → n ≤ within' → bijective_digits_within within base n ≡ bijective_digits_within within' base n
digits_same zero within' base n two p q = sym (digits_none within' base n (omega arith))
digits_same (suc within) zero base n two p q = digits_none (suc within) base n (omega arith)
digits_same (suc within) (suc within') base n two p q = elim (cases_lt 0 n) [
  | inl l ↦
      let k = digit_falls base n two l in
      digits_some within base n l ∙ ap (λ x. x ++ ((n - 1) % base ∷ [])) (digits_same within within' base ((n - 1) / base) two (omega arith) (omega arith)) ∙ sym (digits_some within' base n l)
  | inr l ↦ digits_none (suc within) base n (omega arith) ∙ sym (digits_none (suc within') base n (omega arith))
]

-- the digits of a number are those of its quotient and one more, whatever the base from 2 on
pub bijective_digits-step : (base n : ℕ) → 2 ≤ base → 0 < n → bijective_digits base n ≡ bijective_digits base ((n - 1) / base) ++ ((n - 1) % base ∷ [])
bijective_digits-step base zero two h = absurd (omega arith)
bijective_digits-step base (suc m) two h =
    let k = digit_falls base (suc m) two h in
    digits_some m base (suc m) h ∙ ap (λ x. x ++ ((suc m - 1) % base ∷ [])) (digits_same m ((suc m - 1) / base) base ((suc m - 1) / base) two (omega arith) (omega arith))

-- one more digit is known
pub collects_digit : (all before after : List ℕ) (digits digits' : List ℕ) (digit : ℕ) → all ≡ before ++ reverse digits → before ≡ after ++ digit ∷ [] → digits' ≡ digits ++ digit ∷ [] → all ≡ after ++ reverse digits'
collects_digit all before after digits digits' digit e f g = rw (g, reverse-push digits digit) (e ∙ ap (λ ds. ds ++ reverse digits) f ∙ append_assoc after (digit ∷ []) (reverse digits))

pub below-push : (n : ℕ) (digits digits' : List ℕ) (digit : ℕ) → All (λ d. d < n) digits → digit < n → digits' ≡ digits ++ digit ∷ [] → All (λ d. d < n) digits'
below-push n digits digits' digit all h e = rw e (All-append (λ d. d < n) digits (digit ∷ []) all (All-cons (λ d. d < n) digit [] h (λ k d i. absurd (omega arith))))

pub below-pop : (n : ℕ) (digits rest : List ℕ) (digit : ℕ) → digits ≡ rest ++ digit ∷ [] → All (λ d. d < n) digits → All (λ d. d < n) rest
below-pop n digits rest digit e all k d h =
    let there : get_or digits k d < n = all k d (omega (arith, ap length e, length-append rest (digit ∷ []))) in
    let same : get_or digits k d ≡ get_or rest k d = ap (λ ds. get_or ds k d) e ∙ grind (arith, common_steps) in
    omega (arith, there, same)

pub below-last : (n : ℕ) (digits rest : List ℕ) (digit : ℕ) → digits ≡ rest ++ digit ∷ [] → All (λ d. d < n) digits → digit < n
below-last n digits rest digit e all =
    let there : get_or digits (length rest) 0 < n = all (length rest) 0 (omega (arith, ap length e, length-append rest (digit ∷ []))) in
    let same : get_or digits (length rest) 0 ≡ digit = ap (λ ds. get_or ds (length rest) 0) e ∙ get_or-append_seam rest digit [] 0 in
    omega (arith, there, same)
