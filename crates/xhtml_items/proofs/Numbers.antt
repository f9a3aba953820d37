-- Numbers as std reads them, and as a reference is read.
use Rattle.std.proofs.Common.{◌≡◌, ℕ, ◌^◌, ◌<◌, ◌≤◌, Bool, true, false, cond, eqb, ltb, IsTrue, List, [], ◌∷◌, length, Some, None, Result, Ok, Err, inl, inr, refl, sym, ap, subst, ◌∙◌, arith}
use Rattle.std.specs.Char.{digit_value, IsScalar}
use Rattle.std.specs.List.{list_all}
use Rattle.std.specs.Str.{chars, IsUtf8, IsAscii}
use Rattle.std.specs.Str.Parse.{ParsesUnsigned, IsNumeral, AllDigits, digits_value, without_leading_plus}
use Rattle.std.proofs.lemmas.Bool.{and_parts, ltb-true, cases_lt}
use Rattle.std.proofs.lemmas.Bool.Decides.{nat_tests}
use Rattle.std.proofs.lemmas.Str.{encodes-chars, encodes-IsAscii}
use Rattle.std.proofs.lemmas.Str.Ascii.{IsAscii-nil, IsAscii-cons}
use Rattle.reading.specs.Reading.{span}
use Rattle.xml_definitions.specs.Spelling.{is_legal}
use Rattle.xhtml_items.specs.Classes.{are_digits}
use Rattle.xhtml_items.specs.Machinery.Items.{numbered}
use Rattle.xhtml_items.proofs.StepLaws.{span_takes}

-- a digit of a base that std knows is ASCII, and no plus
small_digit : (c : ℕ) → digit_value c < 36 → (c < 128) × (eqb c 43 ≡ false)
small_digit c h = (grind (arith, nat_tests), grind (arith, nat_tests))

digits_ascii : (base : ℕ) (cs : List ℕ) → base ≤ 36 → are_digits base cs ≡ true → IsAscii cs
digits_ascii base [] high h = IsAscii-nil
digits_ascii base (c ∷ cs) high h =
    let p = and_parts (ltb (digit_value c) base) (are_digits base cs) h in
    let small = ltb-true (digit_value c) base p.0 in
    IsAscii-cons c cs (small_digit c (omega arith)).0 (digits_ascii base cs high p.1)

-- the bytes of digits are their characters
pub digit_bytes : (base : ℕ) (bs : List ℕ) → base ≤ 36 → IsUtf8 bs → are_digits base (chars bs) ≡ true → bs ≡ chars bs
digit_bytes base bs high utf8 h = sym (encodes-chars bs utf8) ∙ encodes-IsAscii (chars bs) (digits_ascii base (chars bs) high h)

all_digits : (base : ℕ) (cs : List ℕ) → are_digits base cs ≡ true → AllDigits base cs
all_digits base [] h = tt
all_digits base (c ∷ cs) h = let p = and_parts (ltb (digit_value c) base) (are_digits base cs) h in (ltb-true (digit_value c) base p.0, all_digits base cs p.1)

no_plus : (base : ℕ) (cs : List ℕ) → base ≤ 36 → are_digits base cs ≡ true → without_leading_plus cs ≡ cs
no_plus base [] high h = refl
no_plus base (c ∷ cs) high h =
    let p = and_parts (ltb (digit_value c) base) (are_digits base cs) h in
    let small = ltb-true (digit_value c) base p.0 in
    rw (small_digit c (omega arith)).1 refl

-- what is above the last scalar is no character
pub not_legal : (n : ℕ) → 0x110000 ≤ n → is_legal n ≡ false
not_legal n h = grind (arith, nat_tests)

pub not_scalar : (n : ℕ) → (IsScalar n → ⊥) → is_legal n ≡ false
not_scalar n h = elim (is_legal n) as (λ t. is_legal n ≡ t → t ≡ false) [ true ↦ (λ e. absurd (h (scalar e))) | false ↦ (λ e. refl) ] refl
  where
    scalar : is_legal n ≡ true → IsScalar n
    scalar e = grind (arith, nat_tests)

-- the bytes of digits, with no plus to drop
plain : (base : ℕ) (bs : List ℕ) → base ≤ 36 → IsUtf8 bs → are_digits base (chars bs) ≡ true → without_leading_plus bs ≡ chars bs
plain base bs high utf8 h = ap without_leading_plus (digit_bytes base bs high utf8 h) ∙ no_plus base (chars bs) high h

unread : (base : ℕ) (cs : List ℕ) → are_digits base cs ≡ true → (IsNumeral base cs × (digits_value base cs < 2 ^ 32) → ⊥) → numbered base cs ≡ None
unread base [] h p = refl
unread base (c ∷ cs) h p = elim (cases_lt (digits_value base (c ∷ cs)) (2 ^ 32)) [
  | inl lt ↦ absurd (p ((omega arith, all_digits base (c ∷ cs) h), lt))
  | inr ge ↦ rw (not_legal (digits_value base (c ∷ cs)) (omega arith)) refl
]

-- what could not be read as a number is no character
pub numbered_none : {E : Type 0} (base : ℕ) (bs : List ℕ) (e : E) → base ≤ 36 → IsUtf8 bs → are_digits base (chars bs) ≡ true → ParsesUnsigned 32 base bs (Err e) → numbered base (chars bs) ≡ None
numbered_none base bs e high utf8 h p =
    let P : List ℕ → Type 0 = λ ds. IsNumeral base ds × (digits_value base ds < 2 ^ 32) → ⊥ in
    unread base (chars bs) h (subst P (plain base bs high utf8 h) p)

was_read : (base : ℕ) (cs : List ℕ) (n : ℕ) → 0 < length cs → n ≡ digits_value base cs → numbered base cs ≡ cond (is_legal n) (Some n) None
was_read base [] n filled e = absurd (omega arith)
was_read base (c ∷ cs) n filled e = rw e refl

module _ (base : ℕ) (bs : List ℕ) (n : ℕ) (high : base ≤ 36) (utf8 : IsUtf8 bs) (h : are_digits base (chars bs) ≡ true) {E : Type 0} (r : Result ℕ E) (is : r ≡ Ok n) (p : ParsesUnsigned 32 base bs r) where
  numbered_value : numbered base (chars bs) ≡ cond (is_legal n) (Some n) None
  numbered_value =
      let P : List ℕ → Type 0 = λ ds. (0 < length ds) × (n ≡ digits_value base ds) in
      let o = rw is at p in
      let q : P (chars bs) = subst P (plain base bs high utf8 h) (o.0.0.0, o.1) in
      was_read base (chars bs) n q.0 q.1

  pub numbered_some : (c : ℕ) → c ≡ n → true ≡ is_legal c → numbered base (chars bs) ≡ Some c
  numbered_some c same legal = let t : is_legal n ≡ true = ap is_legal (sym same) ∙ sym legal in numbered_value ∙ rw (t, same) refl

  pub numbered_not : is_legal n ≡ false → numbered base (chars bs) ≡ None
  numbered_not t = numbered_value ∙ rw t refl

-- a span of digits of the class is digits of the base
pub span_digits : (test : ℕ → Bool) (base : ℕ) (cs digits rest : List ℕ) → ((c : ℕ) → IsTrue (test c) → digit_value c < base) → span test cs ≡ (digits, rest) → IsTrue (are_digits base digits)
span_digits test base cs digits rest small e = go digits (ap (λ (x : List ℕ × List ℕ). list_all test x.0) (sym e) ∙ (span_takes test cs).0)
  where
    ltb-from : (d base : ℕ) → digit_value d < base → ltb (digit_value d) base ≡ true
    ltb-from d base lt = grind (arith, nat_tests)

    go : (ds : List ℕ) → list_all test ds ≡ true → are_digits base ds ≡ true
    go [] h = refl
    go (d ∷ ds) h =
        let p = and_parts (test d) (list_all test ds) h in
        let lt = small d p.0 in
        rw (ltb-from d base lt, go ds p.1) refl
