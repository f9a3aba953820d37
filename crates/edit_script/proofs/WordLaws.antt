-- How words end, and that what is written is written once.
use Rattle.std.proofs.Common.{◌≡◌, ℕ, ◌<◌, ◌≤◌, ◌+◌, ◌^◌, ◌%◌, Bool, true, false, not, eqb, List, [], ◌∷◌, ◌++◌, length, refl, sym, ap, ◌∙◌, arith, inl, inr, Option, Some, None}
use Rattle.std.specs.Fmt.{decimal}
use Rattle.std.specs.List.{list_all}
use Rattle.std.specs.Str.{chars, IsUtf8}
use Rattle.std.proofs.lemmas.Bool.{and_parts, eqb-true, cases_Bool}
use Rattle.std.proofs.lemmas.Bool.Decides.{nat_tests}
use Rattle.std.proofs.lemmas.Fmt.{decimal_by_steps, decimal_injective, IsAscii-decimal}
use Rattle.std.proofs.lemmas.List.{length-append}
use Rattle.std.proofs.lemmas.Str.{chars-IsAscii, encodes-IsAscii, encodes-chars}
use Rattle.std.specs.Prelude.{encode_utf8_all}
use Rattle.reading.specs.Characters.{is_digit}
use Rattle.xml_definitions.specs.Characters.{is_name_character, is_name_start}
use Rattle.dump_definitions.specs.Dump.{path_text}
use Rattle.xml_definitions.specs.Spelling.{IsName}
use Rattle.xhtml_items.proofs.StepLaws.{IsFirst, past_text_takes, span_takes, split_takes, start_goes_on}
use Rattle.reading.specs.Reading.{◌then◌, past_text, span}
use Rattle.xhtml_items.specs.Reading.{split_once, with_first}
use Rattle.edit_script.specs.Scripts.{IsPath, IsPosition}
use Rattle.edit_script.specs.Machinery.Words.{IsPositionAndRest, IsPositionFront, IsPositionText, IsWordAndRest, is_spaceless, positions_text, starts_with_digit}

-- Tests of all characters.

pub all-append : (test : ℕ → Bool) (xs ys : List ℕ) → list_all test xs ≡ true → list_all test ys ≡ true → list_all test (xs ++ ys) ≡ true
all-append test [] ys h k = k
all-append test (x ∷ xs) ys h k = let p = and_parts (test x) (list_all test xs) h in rw (p.0, all-append test xs ys p.1 k) refl

pub all-weaker : (test other : ℕ → Bool) → ((c : ℕ) → test c ≡ true → other c ≡ true) → (xs : List ℕ) → list_all test xs ≡ true → list_all other xs ≡ true
all-weaker test other weaker [] h = refl
all-weaker test other weaker (x ∷ xs) h = let p = and_parts (test x) (list_all test xs) h in rw (weaker x p.0, all-weaker test other weaker xs p.1) refl

-- a test that a space fails
pub not_space : (test : ℕ → Bool) → test 32 ≡ false → (c : ℕ) → test c ≡ true → not (eqb c 32) ≡ true
not_space test fails c passes = elim (cases_Bool (eqb c 32)) [
  | inl same ↦ absurd (let is : c ≡ 32 = eqb-true c 32 same in let at : test c ≡ test 32 = ap test is in cc)
  | inr other ↦ rw other refl
]

-- Words.

pub name_word : (name : List ℕ) → IsName name → is_spaceless name ≡ true
name_word [] h = refl
name_word (c ∷ cs) h =
    let p = and_parts (is_name_start c) (list_all is_name_character cs) h in
    let first : is_name_character c ≡ true = start_goes_on c p.0 in
    all-weaker is_name_character (λ c. not (eqb c 32)) (not_space is_name_character refl) (c ∷ cs) (rw (first, p.1) refl)

digit_is : (d : ℕ) → d < 10 → is_digit (48 + d) ≡ true
digit_is d h = grind (arith, nat_tests)

pub decimal_digits : (n : ℕ) → n < 2 ^ 64 → list_all is_digit (decimal n) ≡ true
decimal_digits n h = decimal_by_steps (λ n ds. list_all is_digit ds ≡ true) one more n h
  where
    one : (n : ℕ) → n < 10 → list_all is_digit ((48 + n) ∷ []) ≡ true
    one n h = rw (digit_is n h) refl

    more : (n : ℕ) (ds : List ℕ) → 10 ≤ n → list_all is_digit ds ≡ true → list_all is_digit (ds ++ ((48 + n % 10) ∷ [])) ≡ true
    more n ds h all = all-append is_digit ds ((48 + n % 10) ∷ []) all (rw (digit_is (n % 10) (omega arith)) refl)

pub small : (n : ℕ) → IsPosition n → n < 2 ^ 64
small n h = omega arith

pub decimal_word : (n : ℕ) → IsPosition n → is_spaceless (decimal n) ≡ true
decimal_word n h = all-weaker is_digit (λ c. not (eqb c 32)) (not_space is_digit refl) (decimal n) (decimal_digits n (small n h))

positions_word : (path : List ℕ) → IsPath path → is_spaceless (positions_text path) ≡ true
positions_word [] sound = refl
positions_word (position ∷ path) sound = all-append (λ c. not (eqb c 32)) (decimal position) (positions_text path) (decimal_word position sound.0) (positions_word path sound.1)

pub path_word : (path : List ℕ) → IsPath path → is_spaceless (path_text path) ≡ true
path_word [] sound = refl
path_word (position ∷ path) sound = positions_word (position ∷ path) sound

-- a text begins with one word, where a space stands behind it
pub same_word : (xs ys r s : List ℕ) → is_spaceless xs ≡ true → is_spaceless ys ≡ true → xs ++ 32 ∷ r ≡ ys ++ 32 ∷ s → (xs ≡ ys) × (r ≡ s)
same_word [] [] r s h k e = (refl, cc)
same_word [] (y ∷ ys) r s h k e = absurd (let first : y ≡ 32 = cc in let p = and_parts (not (eqb y 32)) (is_spaceless ys) k in let at = p.0 in let no = rw first at at in cc)
same_word (x ∷ xs) [] r s h k e = absurd (let first : x ≡ 32 = cc in let p = and_parts (not (eqb x 32)) (is_spaceless xs) h in let at = p.0 in let no = rw first at at in cc)
same_word (x ∷ xs) (y ∷ ys) r s h k e =
    let head : x ≡ y = cc in
    let tail : xs ++ 32 ∷ r ≡ ys ++ 32 ∷ s = cc in
    let more = same_word xs ys r s (and_parts (not (eqb x 32)) (is_spaceless xs) h).1 (and_parts (not (eqb y 32)) (is_spaceless ys) k).1 tail in
    (rw (head, more.0) refl, more.1)

spaced : (xs ys : List ℕ) → is_spaceless (xs ++ 32 ∷ ys) ≡ false
spaced [] ys = refl
spaced (x ∷ xs) ys = elim (cases_Bool (not (eqb x 32))) [ inl same ↦ rw (same, spaced xs ys) refl | inr other ↦ rw other refl ]

-- no space stands in a word
pub no_parts : (word xs ys : List ℕ) → is_spaceless word ≡ true → word ≡ xs ++ 32 ∷ ys → ⊥
no_parts word xs ys h e = let no : is_spaceless word ≡ false = ap is_spaceless e ∙ spaced xs ys in cc

-- Splitting at a character.

abbrev pub lacks : ℕ → List ℕ → Bool
lacks wanted characters = list_all (λ c. not (eqb c wanted)) characters

same_code : (c : ℕ) → eqb c c ≡ true
same_code c = grind (arith, nat_tests)

-- what stands before the first of these characters
pub lacks_before : (wanted : ℕ) (inside : List ℕ) → IsFirst (wanted ∷ []) inside → lacks wanted inside ≡ true
lacks_before wanted [] first = refl
lacks_before wanted (c ∷ cs) first = elim (cases_Bool (eqb c wanted)) [
  | inl same ↦ absurd (
      let is : c ≡ wanted = eqb-true c wanted same in
      let none : cs ++ wanted ∷ [] ≡ [] = first [] (cs ++ wanted ∷ []) (rw is refl) in
      let short = ap length none in
      omega (arith, length-append cs (wanted ∷ [])))
  | inr other ↦ rw (other, lacks_before wanted cs (λ before after e. first (c ∷ before) after (ap (λ (t : List ℕ). c ∷ t) e))) refl
]

pub split_is : (text : List ℕ) (x : List ℕ × List ℕ) → split_once (32 ∷ []) text ≡ Some x → IsWordAndRest text x.0 x.1
split_is text x e = let t = split_takes (32 ∷ []) text x e in record { parts = t.1; spaceless = lacks_before 32 x.0 t.0 }

not_none : (whole : Option (List ℕ × List ℕ)) (c : ℕ) → (whole then λ text. with_first c text) ≡ None → whole ≡ None
not_none None c e = refl
not_none (Some x) c e = absurd cc

-- where the character stands, it is found
pub split_finds : (wanted : ℕ) (xs ys : List ℕ) → split_once (wanted ∷ []) (xs ++ wanted ∷ ys) ≡ None → ⊥
unfolding split_once
split_finds wanted [] ys e = absurd (let h = rw same_code at e in cc)
split_finds wanted (x ∷ xs) ys e = elim (cases_Bool (eqb x wanted)) [
  | inl same ↦ absurd (let h = rw same at e in cc)
  | inr other ↦ split_finds wanted xs ys (not_none _ x (rw other at e))
]

-- where the character is not found, it stands nowhere
pub lacks_all : (wanted : ℕ) (text : List ℕ) → split_once (wanted ∷ []) text ≡ None → lacks wanted text ≡ true
unfolding split_once
lacks_all wanted [] e = refl
lacks_all wanted (x ∷ xs) e = elim (cases_Bool (eqb x wanted)) [
  | inl same ↦ absurd (let h = rw same at e in cc)
  | inr other ↦ rw (other, lacks_all wanted xs (not_none _ x (rw other at e))) refl
]

-- Numbers.

pub position-is : (text : List ℕ) (n : ℕ) → IsPosition n → text ≡ decimal n → chars text ≡ decimal n
position-is text n sound e = ap chars e ∙ chars-IsAscii (decimal n) (IsAscii-decimal n (small n sound))

pub position-was : (text : List ℕ) (n : ℕ) → IsUtf8 text → IsPosition n → chars text ≡ decimal n → text ≡ decimal n
position-was text n utf8 sound e = sym (encodes-chars text utf8) ∙ ap encode_utf8_all e ∙ encodes-IsAscii (decimal n) (IsAscii-decimal n (small n sound))

-- digits end where no digit follows
pub same_digits : (xs ys r s : List ℕ) → list_all is_digit xs ≡ true → list_all is_digit ys ≡ true → starts_with_digit r ≡ false → starts_with_digit s ≡ false
    → xs ++ r ≡ ys ++ s → (xs ≡ ys) × (r ≡ s)
same_digits [] [] r s h k stops ends e = (refl, e)
same_digits [] (y ∷ ys) r s h k stops ends e = absurd (let p = and_parts (is_digit y) (list_all is_digit ys) k in let at : starts_with_digit r ≡ is_digit y = ap starts_with_digit e in cc)
same_digits (x ∷ xs) [] r s h k stops ends e = absurd (let p = and_parts (is_digit x) (list_all is_digit xs) h in let at : is_digit x ≡ starts_with_digit s = ap starts_with_digit e in cc)
same_digits (x ∷ xs) (y ∷ ys) r s h k stops ends e =
    let head : x ≡ y = cc in
    let tail : xs ++ r ≡ ys ++ s = cc in
    let more = same_digits xs ys r s (and_parts (is_digit x) (list_all is_digit xs) h).1 (and_parts (is_digit y) (list_all is_digit ys) k).1 stops ends tail in
    (rw (head, more.0) refl, more.1)

-- Positions.

-- the longest front of digits, as it is read
digits_end : (text : List ℕ) → starts_with_digit (span is_digit text).1 ≡ false
unfolding span
digits_end [] = refl
digits_end (c ∷ cs) = elim (cases_Bool (is_digit c)) [ inl same ↦ rw same (digits_end cs) | inr other ↦ rw other other ]

pub position_front : (whole text digits rest : List ℕ) (number : ℕ) → past_text (47 ∷ []) whole ≡ Some text → span is_digit text ≡ (digits, rest) → IsPositionText digits number
    → IsPositionAndRest whole number rest
position_front whole text digits rest number slash read is =
    let parts : text ≡ digits ++ rest = (span_takes is_digit text).1 ∙ ap (λ (x : List ℕ × List ℕ). x.0 ++ x.1) read in
    record {
      parts = past_text_takes (47 ∷ []) whole text slash ∙ ap (λ (t : List ℕ). 47 ∷ t) (parts ∙ ap (λ (t : List ℕ). t ++ rest) is.written);
      sound = is.sound;
      ends = sym (ap (λ (x : List ℕ × List ℕ). starts_with_digit x.1) read) ∙ digits_end text;
    }

-- a text begins with one position behind a slash
pub same_position : (text : List ℕ) (number other : ℕ) (rest after : List ℕ) → IsPositionAndRest text number rest → IsPositionAndRest text other after → (number ≡ other) × (rest ≡ after)
same_position text number other rest after is too =
    let first = is.sound in
    let second = too.sound in
    let whole : decimal number ++ rest ≡ decimal other ++ after = (let e = sym is.parts ∙ too.parts in cc) in
    let same = same_digits (decimal number) (decimal other) rest after (decimal_digits number (small number first)) (decimal_digits other (small other second)) is.ends too.ends whole in
    (decimal_injective number other (small number first) (small other second) same.0, same.1)

-- the digits behind a slash are those of the position that stands there
pub position_digits : (whole text digits rest : List ℕ) (x : ℕ × List ℕ) → past_text (47 ∷ []) whole ≡ Some text → span is_digit text ≡ (digits, rest) → IsPositionFront whole x
    → IsPositionText digits x.0
position_digits whole text digits rest x slash read is =
    let parts : text ≡ digits ++ rest = (span_takes is_digit text).1 ∙ ap (λ (x : List ℕ × List ℕ). x.0 ++ x.1) read in
    let all : list_all is_digit digits ≡ true = sym (ap (λ (x : List ℕ × List ℕ). list_all is_digit x.0) read) ∙ (span_takes is_digit text).0 in
    let ends : starts_with_digit rest ≡ false = sym (ap (λ (x : List ℕ × List ℕ). starts_with_digit x.1) read) ∙ digits_end text in
    let behind : text ≡ decimal x.0 ++ x.1 = (let e = sym (past_text_takes (47 ∷ []) whole text slash) ∙ is.parts in cc) in
    let sound = is.sound in
    let same = same_digits digits (decimal x.0) rest x.1 all (decimal_digits x.0 (small x.0 sound)) ends is.ends (sym parts ∙ behind) in
    record { written = same.0; sound = sound }
