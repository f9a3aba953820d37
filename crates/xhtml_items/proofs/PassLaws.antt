-- Runs of characters that their bytes tell.
use Rattle.std.proofs.Common.{◌≡◌, ℕ, zero, suc, ◌+◌, ◌/◌, ◌%◌, ◌<◌, ◌≤◌, not, ◌==◌, Bool, true, false, List, [], ◌∷◌, ◌++◌, Option, Some, None, length, take, get_or, refl, sym, ap, ◌∙◌, append_assoc, add-one, arith, inl, inr}
use Rattle.std.specs.Char.{IsScalar, encode_utf8}
use Rattle.std.specs.List.{list_all, list_any, position, position_or_len}
use Rattle.std.specs.Option.{unwrap_or, SomeIff}
use Rattle.std.specs.Str.{chars, IsUtf8, IsCharBoundary, encode_utf8_all, all_scalars}
use Rattle.std.proofs.lemmas.Bool.{and_parts, or_parts, cases_lt, lt-ltb, le-ltb, cond-true, cond-false}
use Rattle.std.proofs.lemmas.Bool.Decides.{nat_tests, same_from_decides}
use Rattle.std.proofs.lemmas.List.{nil_from_length}
use Rattle.std.proofs.lemmas.List.Folds.{list_any-append, list_any_more}
use Rattle.std.proofs.lemmas.List.Sums.{fails_before_first, passes_at_first, prefix_len-le-length}
use Rattle.std.proofs.lemmas.Str.{encode_ascii, encodes-chars, scalars-chars, chars-append, chars-nil}
use Rattle.reading.specs.Characters.{is_quote}
use Rattle.reading.specs.Reading.{span}
use Rattle.reading.proofs.Runs.{Goes}
use Rattle.xml_definitions.specs.Characters.{is_character, is_plain}
use Rattle.lane_class.specs.Ranges.{is_in}
use Rattle.xhtml_items.specs.Machinery.Items.{value_part_at}
use Rattle.xhtml_items.specs.Machinery.StopBytes.{has_stop, is_straight, Tells, AreFirst}
use Rattle.xhtml_items.proofs.Cuts.{Cut, Runs}
use Rattle.xhtml_items.proofs.RunLaws.{Goes-over}

-- The bytes of one character.

low_byte : (p : ℕ → Bool) (c : ℕ) → c < 128 → list_any p (encode_utf8 c) ≡ false → p c ≡ false
low_byte p c low e = (or_parts (p c) false (ap (list_any p) (sym (encode_ascii c low)) ∙ e)).0

-- the characters from U+F000 on that take three bytes begin with 0xef
high_byte : (p : ℕ → Bool) (c : ℕ) → 0xf000 ≤ c → c < 0x10000 → list_any p (encode_utf8 c) ≡ false → p 239 ≡ false
unfolding encode_utf8
high_byte p c low high e =
    let lead : 224 + c / 4096 ≡ 239 = omega arith in
    let bytes : encode_utf8 c ≡ (224 + c / 4096) ∷ (128 + (c / 64) % 64) ∷ (128 + c % 64) ∷ [] =
    cond-false _ _ _ (le-ltb c 128 (omega arith)) ∙ cond-false _ _ _ (le-ltb c 2048 (omega arith)) ∙ cond-true _ _ _ (lt-ltb c 65536 high) in
    ap p (sym lead) ∙ (or_parts (p (224 + c / 4096)) (list_any p ((128 + (c / 64) % 64) ∷ (128 + c % 64) ∷ [])) (ap (list_any p) (sym bytes) ∙ e)).0

wide : (c : ℕ) → 128 ≤ c → IsScalar c → (0xf000 ≤ c → c < 0x10000 → ⊥) → is_character c ≡ true
wide c low scalar out = elim (cases_lt c 0xf000) [
  | inl lt ↦ grind (arith, nat_tests)
  | inr ge ↦ let beyond : 0x10000 ≤ c = elim (cases_lt c 0x10000) [ inl lt ↦ absurd (out ge lt) | inr le ↦ le ] in grind (arith, nat_tests)
]

-- ranges tell a test that 0xef is in, if they tell the ASCII characters, and all others pass
tell : (stops : List (ℕ × ℕ)) (test : ℕ → Bool) → is_in stops 239 ≡ true → ((c : ℕ) → c < 128 → is_in stops c ≡ false → test c ≡ true)
    → ((c : ℕ) → 128 ≤ c → is_character c ≡ true → test c ≡ true) → Tells stops test
tell stops test mark low high c scalar e = elim (cases_lt c 128) [
  | inl lt ↦ low c lt (low_byte (is_in stops) c lt e)
  | inr ge ↦ high c ge (wide c ge scalar (λ l h. none (is_in stops 239) mark (high_byte (is_in stops) c l h e)))
] where
  none : (b : Bool) → b ≡ true → b ≡ false → ⊥
  none true t f = absurd cc
  none false t f = absurd cc

-- the class that was made
pub made : (ranges : List (ℕ × ℕ)) (made : Option (List (ℕ × ℕ))) (class : List (ℕ × ℕ)) → SomeIff made (length ranges ≤ 8) ranges → made ≡ Some class → ranges ≡ class
made ranges None class h e = absurd (let clash = e in cc)
made ranges (Some x) class h e = sym h.1 ∙ (let same = e in cc)

abbrev pub plain_ranges : List (ℕ × ℕ)
plain_ranges = (0, 8) ∷ (11, 31) ∷ (38, 38) ∷ (60, 60) ∷ (239, 239) ∷ []

pub plain_tells : Tells plain_ranges (λ c. is_plain c)
plain_tells = tell plain_ranges (λ c. is_plain c) refl (λ c low out. grind (arith, nat_tests)) (λ c wide is. grind (arith, nat_tests))

pub plain_first : AreFirst plain_ranges
plain_first byte is high = grind (arith, nat_tests)

abbrev pub character_ranges : List (ℕ × ℕ)
character_ranges = (0, 8) ∷ (11, 31) ∷ (239, 239) ∷ []

pub character_tells : Tells character_ranges (λ c. is_character c)
character_tells = tell character_ranges (λ c. is_character c) refl (λ c low out. grind (arith, nat_tests)) (λ c wide is. is)

pub character_first : AreFirst character_ranges
character_first byte is high = grind (arith, nat_tests)

abbrev pub value_ranges : List (ℕ × ℕ)
value_ranges = (0, 31) ∷ (34, 34) ∷ (38, 39) ∷ (60, 60) ∷ (239, 239) ∷ []

pub value_tells : Tells value_ranges (λ c. is_straight c)
value_tells = tell value_ranges (λ c. is_straight c) refl (λ c low out. grind (arith, nat_tests)) (λ c wide is. grind (arith, nat_tests))

pub value_first : AreFirst value_ranges
value_first byte is high = grind (arith, nat_tests)

-- All characters of a text without stops.

all_pass : (stops : List (ℕ × ℕ)) (test : ℕ → Bool) → Tells stops test → (cs : List ℕ) → all_scalars cs ≡ true → has_stop stops (encode_utf8_all cs) ≡ false
    → list_all test cs ≡ true
all_pass stops test tells [] scalars e = refl
all_pass stops test tells (c ∷ cs) scalars e =
    let s = and_parts _ (all_scalars cs) scalars in
    let p = or_parts (has_stop stops (encode_utf8 c)) (has_stop stops (encode_utf8_all cs)) (sym (list_any-append (is_in stops) (encode_utf8 c) (encode_utf8_all cs)) ∙ e) in
    rw (tells c s.0 p.0, all_pass stops test tells cs s.1 p.1) refl

pub text_passes : (stops : List (ℕ × ℕ)) (test : ℕ → Bool) → Tells stops test → (bytes : List ℕ) → IsUtf8 bytes → has_stop stops bytes ≡ false → list_all test (chars bytes) ≡ true
text_passes stops test tells bytes utf8 e = all_pass stops test tells (chars bytes) (scalars-chars bytes utf8) (ap (has_stop stops) (encodes-chars bytes utf8) ∙ e)

-- The first stop.

pub first_place : (p : ℕ → Bool) (bytes : List ℕ) → unwrap_or (position p bytes) (length bytes) ≡ position_or_len p bytes
first_place p bytes = elim (cases_lt (position_or_len p bytes) (length bytes)) [
  | inl lt ↦ ap (λ (place : Option ℕ). unwrap_or place (length bytes)) (cond-true _ _ _ (lt-ltb (position_or_len p bytes) (length bytes) lt))
  | inr ge ↦
      ap (λ (place : Option ℕ). unwrap_or place (length bytes)) (cond-false _ _ _ (le-ltb (position_or_len p bytes) (length bytes) ge))
      ∙ (let same : length bytes ≡ position_or_len p bytes = omega (arith, prefix_len-le-length (λ b. not (p b)) bytes) in same)
]

none_before : (p : ℕ → Bool) (bytes : List ℕ) (n : ℕ) → n ≤ position_or_len p bytes → list_any p (take n bytes) ≡ false
none_before p [] zero le = refl
none_before p (b ∷ bytes) zero le = refl
none_before p bytes (suc n) le =
    let within : n < length bytes = omega (arith, prefix_len-le-length (λ b. not (p b)) bytes) in
    let here : p (get_or bytes n 0) ≡ false = fails_before_first p bytes n 0 (omega arith) in
    rw (← add-one) (list_any_more p bytes n 0 within ∙ rw (none_before p bytes n (omega arith), here) refl)

pub no_stop_before : (stops : List (ℕ × ℕ)) (bytes : List ℕ) (place : ℕ) → place ≡ position_or_len (is_in stops) bytes → has_stop stops (take place bytes) ≡ false
no_stop_before stops bytes place is = none_before (is_in stops) bytes place (omega arith)

pub stop_boundary : (stops : List (ℕ × ℕ)) (bytes : List ℕ) (place : ℕ) → AreFirst stops → place ≡ position_or_len (is_in stops) bytes → IsCharBoundary bytes place
stop_boundary stops bytes place first is =
    (omega (arith, prefix_len-le-length (λ b. not (is_in stops b)) bytes), λ within high. first (get_or bytes place 0) (at within) high)
  where
    at : place < length bytes → is_in stops (get_or bytes place 0) ≡ true
    at within = rw is (passes_at_first (is_in stops) bytes 0 (omega arith))

-- Runs.

Cut-over : (whole front rest bytes after : List ℕ) → Cut whole front rest → rest ≡ bytes ++ after → IsUtf8 bytes → Cut whole (front ++ chars bytes) after
Cut-over whole front rest bytes after cut p utf8 = record {
  bytes = cut.bytes ++ bytes;
  parts = cut.parts ∙ ap (λ (t : List ℕ). cut.bytes ++ t) p ∙ sym (append_assoc cut.bytes bytes after);
  chars_are = cut.chars_are ∙ ap (λ (t : List ℕ). front ++ t) (ap chars p ∙ chars-append bytes after utf8) ∙ sym (append_assoc front (chars bytes) (chars after));
}

span_over : (test : ℕ → Bool) (xs ys : List ℕ) → list_all test xs ≡ true → span test (xs ++ ys) ≡ (xs ++ (span test ys).0, (span test ys).1)
unfolding span
span_over test [] ys e = refl
span_over test (x ∷ xs) ys e = let p = and_parts (test x) (list_all test xs) e in rw (p.0, span_over test xs ys p.1) refl

pub Runs-over : (test : ℕ → Bool) (whole rest bytes after : List ℕ) → Runs test whole rest → rest ≡ bytes ++ after → IsUtf8 bytes → list_all test (chars bytes) ≡ true
    → Runs test whole after
Runs-over test whole rest bytes after runs p utf8 all = record {
  front = runs.front ++ chars bytes;
  cut = Cut-over whole runs.front rest bytes after runs.cut p utf8;
  span_is = runs.span_is ∙ rw (ap chars p ∙ chars-append bytes after utf8, span_over test (chars bytes) (chars after) all, append_assoc) refl;
}

-- whether all pass is whether nothing is left behind the front of those that do
pub span_whole : (test : ℕ → Bool) (cs : List ℕ) → (span test cs).1 ≡ [] → list_all test cs ≡ true
unfolding span
span_whole test [] e = refl
span_whole test (c ∷ cs) e = go (test c) refl (λ h. span_whole test cs h)
  where
    go : (b : Bool) → test c ≡ b → ((span test cs).1 ≡ [] → list_all test cs ≡ true) → list_all test (c ∷ cs) ≡ true
    go true t later = rw t (later (rw t at e))
    go false t later = absurd (let h = rw t at e in cc)

pub whole_span : (test : ℕ → Bool) (cs : List ℕ) → list_all test cs ≡ true → (span test cs).1 ≡ []
unfolding span
whole_span test [] e = refl
whole_span test (c ∷ cs) e = let p = and_parts (test c) (list_all test cs) e in rw p.0 (whole_span test cs p.1)

-- Values.

pub straight_part : (quote c : ℕ) (cs : List ℕ) → is_quote quote ≡ true → is_straight c ≡ true → value_part_at quote (c ∷ cs) ≡ Some (c, cs)
unfolding value_part_at
straight_part quote c cs q s = grind (arith, nat_tests)

-- whether all characters pass is whether nothing is left
pub all_from_span : (test : ℕ → Bool) (cs bytes : List ℕ) (left : Bool) → IsUtf8 bytes → (span test cs).1 ≡ chars bytes → left ≡ (length bytes == 0) → left ≡ list_all test cs
all_from_span test cs bytes left utf8 is e =
    same_from_decides {P = chars bytes ≡ []} left (list_all test cs) (to, from) ((λ all. sym is ∙ whole_span test cs all), (λ none. span_whole test cs (is ∙ none)))
  where
    to : left ≡ true → chars bytes ≡ []
    to t = let none : length bytes ≡ 0 = grind (arith, nat_tests) in ap chars (nil_from_length bytes none) ∙ chars-nil

    from : chars bytes ≡ [] → left ≡ true
    from none = e ∙ ap (λ (t : List ℕ). length t == 0) (sym (encodes-chars bytes utf8) ∙ ap encode_utf8_all none)

-- a part of a value that reads as itself
pub Goes-straight : (quote : ℕ) (whole pieces rest bytes after : List ℕ) → is_quote quote ≡ true → IsUtf8 bytes → rest ≡ bytes ++ after → list_all (λ c. is_straight c) (chars bytes) ≡ true
    → Goes (value_part_at quote) whole pieces (chars rest) → Goes (value_part_at quote) whole (pieces ++ chars bytes) (chars after)
Goes-straight quote whole pieces rest bytes after q utf8 p all goes =
    Goes-over (value_part_at quote) (λ c. is_straight c) (λ c cs s. straight_part quote c cs q s) whole pieces (chars bytes) (chars after) all
    (rw (ap chars p ∙ chars-append bytes after utf8) at goes)
