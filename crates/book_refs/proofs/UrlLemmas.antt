-- Urls cut at their first `#`, as bytes and as characters.
use Rattle.std.proofs.Common.{◌≡◌, ◌≢◌, ◌==◌, ◌<◌, ◌+◌, ℕ, true, false, zero, suc, List, [], ◌∷◌, ◌++◌, Option, Some, None, ap, ap₂, arith, drop, get_or, length, lit<, option_and_then, option_map, refl, subst, sym, take, ◌∙◌, inl, inr}
use Rattle.std.proofs.lemmas.Bool.{cases_Bool, eqb-true, false≢true}
use Rattle.std.proofs.lemmas.Str.{IsCharBoundary-after_ascii, IsCharBoundary-before_ascii, IsUtf8-drop, IsUtf8-take, chars-nil, chars_from_encodes, encode_ascii, encodes-append, encodes-chars}
use Rattle.std.specs.Char.{encode_utf8}
use Rattle.std.specs.List.{AllByRecursion}
use Rattle.std.specs.Prelude.{encode_utf8_all}
use Rattle.std.specs.Str.{IsUtf8, chars}
use Rattle.reading.specs.Punctuation.{number_sign}
use Rattle.generated_texts.specs.References.{first_holder}
use Rattle.book_definitions.specs.Aims.{Address, Aim, address, chapter_at, chapter_named, target}
use Rattle.book_definitions.specs.Chapters.{Chapter}
use Rattle.book_definitions.proofs.NameLemmas.{address_of_name}

-- no number is a `#`
abbrev IsSignless : List ℕ → Type 0
IsSignless text = AllByRecursion (λ (character : ℕ). character ≢ number_sign) text

signless_bytes : (bytes : List ℕ) → ((i : ℕ) → i < length bytes → get_or bytes i 0 ≢ number_sign) → IsSignless bytes
signless_bytes [] none = tt
signless_bytes (byte ∷ bytes) none = (none 0 (omega arith), signless_bytes bytes (λ i within. none (suc i) (omega arith)))

signless_both : (front back : List ℕ) → IsSignless (front ++ back) → IsSignless front × IsSignless back
signless_both [] back all = (tt, all)
signless_both (byte ∷ front) back all = let rest = signless_both front back all.1 in ((all.0, rest.0), rest.1)

signless_text : (text : List ℕ) → IsSignless (encode_utf8_all text) → IsSignless text
signless_text [] all = tt
signless_text (character ∷ text) all =
    let both = signless_both (encode_utf8 character) (encode_utf8_all text) all in (
      (λ sign.
          let bytes : encode_utf8 character ≡ number_sign ∷ [] = ap encode_utf8 sign ∙ encode_ascii number_sign (lit< tt) in
          let first : IsSignless (number_sign ∷ []) = subst IsSignless bytes both.0 in
          first.0 refl),
      signless_text text both.1,
    )

signless_chars : (bytes : List ℕ) → IsUtf8 bytes → ((i : ℕ) → i < length bytes → get_or bytes i 0 ≢ number_sign) → IsSignless (chars bytes)
signless_chars bytes utf8 none = signless_text (chars bytes) (subst IsSignless (sym (encodes-chars bytes utf8)) (signless_bytes bytes none))

no_address : (text : List ℕ) → IsSignless text → address text ≡ None
no_address [] signless = refl
no_address (first ∷ rest) signless = elim (cases_Bool (first == number_sign)) [
  | inl e ↦ absurd (signless.0 (eqb-true first number_sign e))
  | inr e ↦ rw e (ap (λ behind. option_map {U = Address} (λ (behind : Address). record { name = first ∷ behind.name; id = behind.id }) behind) (no_address rest signless.1))
]

-- The text before a `#` is empty, or it is not.

pub unnamed : (volume : List Chapter) (own : Chapter) (name : List ℕ) → (length name == 0) ≡ true → chapter_at volume own (chars name) ≡ Some own
unnamed volume own [] e = ap (chapter_at volume own) chars-nil
unnamed volume own (byte ∷ bytes) e = let none : length (byte ∷ bytes) ≡ 0 = eqb-true (length (byte ∷ bytes)) 0 e in absurd (omega arith)

pub named : (volume : List Chapter) (own : Chapter) (name : List ℕ) → IsUtf8 name → (length name == 0) ≡ false → chapter_at volume own (chars name) ≡ chapter_named volume (chars name)
named volume own name utf8 e = by (chars name) refl
  where
    by : (text : List ℕ) → chars name ≡ text → chapter_at volume own text ≡ chapter_named volume text
    by [] is =
        let empty : name ≡ [] = sym (encodes-chars name utf8) ∙ ap encode_utf8_all is in
        absurd (false≢true (sym e ∙ ap (λ (bytes : List ℕ). length bytes == 0) empty))
    by (first ∷ rest) is = refl

-- without a `#` a url aims at nothing
pub no_target : (volume : List Chapter) (own : Chapter) (url : List ℕ) → IsUtf8 url → ((i : ℕ) → i < length url → get_or url i 0 ≢ number_sign)
    → target volume own (chars url) ≡ None
no_target volume own url utf8 none = rw (no_address (chars url) (signless_chars url utf8 none)) refl

-- Both sides of a `#` are text.

front_taken : (front rest : List ℕ) → take (length front) (front ++ rest) ≡ front
front_taken [] rest = refl
front_taken (byte ∷ front) rest = ap (λ (bytes : List ℕ). byte ∷ bytes) (front_taken front rest)

back_dropped : (front back : List ℕ) (place : ℕ) → place ≡ length front + 1 → drop place (front ++ number_sign ∷ back) ≡ back
back_dropped [] back place e = rw e refl
back_dropped (byte ∷ front) back zero e = absurd (omega arith)
back_dropped (byte ∷ front) back (suc place) e = back_dropped front back place (omega arith)

sign_there : (front back : List ℕ) → get_or (front ++ number_sign ∷ back) (length front) 0 ≡ number_sign
sign_there [] back = refl
sign_there (byte ∷ front) back = sign_there front back

sign_within : (front back : List ℕ) → length front < length (front ++ number_sign ∷ back)
sign_within [] back = omega arith
sign_within (byte ∷ front) back = let rest = sign_within front back in omega (arith, rest)

pub cut_utf8 : (url front back : List ℕ) → IsUtf8 url → url ≡ front ++ number_sign ∷ back → IsUtf8 front × IsUtf8 back
cut_utf8 url front back utf8 parts =
    let whole : IsUtf8 (front ++ number_sign ∷ back) = subst IsUtf8 parts utf8 in
    let within = sign_within front back in
    let ascii = subst (λ (byte : ℕ). byte < 128) (sym (sign_there front back)) (lit< tt) in (
      subst IsUtf8 (front_taken front (number_sign ∷ back)) (IsUtf8-take (front ++ number_sign ∷ back) (length front) whole (IsCharBoundary-before_ascii (front ++ number_sign ∷ back) (length front) within ascii)),
      subst IsUtf8 (back_dropped front back (length front + 1) refl) (IsUtf8-drop (front ++ number_sign ∷ back) (length front + 1) whole (IsCharBoundary-after_ascii (front ++ number_sign ∷ back) (length front) whole within ascii)),
    )

chars_cut : (url front back : List ℕ) → IsUtf8 url → IsUtf8 front → IsUtf8 back → url ≡ front ++ number_sign ∷ back
    → chars url ≡ chars front ++ number_sign ∷ chars back
chars_cut url front back utf8 front_utf8 back_utf8 parts =
    sym (chars_from_encodes (chars front ++ number_sign ∷ chars back) url utf8
    (encodes-append (chars front) (number_sign ∷ chars back)
    ∙ ap₂ (λ (one other : List ℕ). one ++ other) (encodes-chars front front_utf8) (ap₂ (λ (one other : List ℕ). one ++ other) (encode_ascii number_sign (lit< tt)) (encodes-chars back back_utf8))
    ∙ sym parts))

-- what is at an address
abbrev at_address : List Chapter → Chapter → Option Address → Option (Chapter × ℕ)
at_address volume own from =
    option_and_then (λ (found : Aim). option_map {U = Chapter × ℕ} (λ key. (found.chapter, key)) (first_holder found.chapter.document found.id))
    (option_and_then (λ (found : Address). option_map (λ (chapter : Chapter). record { chapter = chapter; id = found.id }) (chapter_at volume own found.name)) from)

-- with one, at the first element of the id behind it, in the chapter that the text before it names
pub target_cut : (volume : List Chapter) (own : Chapter) (url front back : List ℕ) (there : Option Chapter) → IsUtf8 url → IsUtf8 front → IsUtf8 back
    → url ≡ front ++ number_sign ∷ back → ((i : ℕ) → i < length front → get_or front i 0 ≢ number_sign)
    → there ≡ chapter_at volume own (chars front)
    → target volume own (chars url) ≡ option_and_then (λ (chapter : Chapter). option_map {U = Chapter × ℕ} (λ (key : ℕ). (chapter, key)) (first_holder chapter.document (chars back))) there
target_cut volume own url front back there utf8 front_utf8 back_utf8 parts none is =
    ap (at_address volume own)
    (ap address (chars_cut url front back utf8 front_utf8 back_utf8 parts) ∙ address_of_name (chars back) (chars front) (signless_chars front front_utf8 none))
    ∙ ap (λ (o : Option Chapter).
    option_and_then (λ (found : Aim). option_map {U = Chapter × ℕ} (λ key. (found.chapter, key)) (first_holder found.chapter.document found.id))
    (option_map (λ (chapter : Chapter). record { chapter = chapter; id = chars back }) o)) (sym is)
    ∙ by there
  where
    by : (o : Option Chapter)
        → option_and_then (λ (found : Aim). option_map {U = Chapter × ℕ} (λ key. (found.chapter, key)) (first_holder found.chapter.document found.id))
        (option_map (λ (chapter : Chapter). record { chapter = chapter; id = chars back }) o)
        ≡ option_and_then (λ (chapter : Chapter). option_map {U = Chapter × ℕ} (λ (key : ℕ). (chapter, key)) (first_holder chapter.document (chars back))) o
    by None = refl
    by (Some chapter) = refl

module _ (volume : List Chapter) (own : Chapter) (url front back : List ℕ) (there : Option Chapter) (utf8 : IsUtf8 url) (parts : url ≡ front ++ number_sign ∷ back)
    (none : (i : ℕ) → i < length front → get_or front i 0 ≢ number_sign) (is : there ≡ chapter_at volume own (chars front)) where
  at_cut : target volume own (chars url) ≡ option_and_then (λ (chapter : Chapter). option_map {U = Chapter × ℕ} (λ (key : ℕ). (chapter, key)) (first_holder chapter.document (chars back))) there
  at_cut = let both = cut_utf8 url front back utf8 parts in target_cut volume own url front back there utf8 both.0 both.1 parts none is

  -- no chapter has the name
  pub no_chapter : there ≡ None → target volume own (chars url) ≡ None
  no_chapter missing = at_cut ∙ ap (option_and_then (λ (chapter : Chapter). option_map {U = Chapter × ℕ} (λ (key : ℕ). (chapter, key)) (first_holder chapter.document (chars back)))) missing

  -- one has
  pub in_chapter : (chapter : Chapter) (holder : Option ℕ) → there ≡ Some chapter → holder ≡ first_holder chapter.document (chars back)
      → target volume own (chars url) ≡ option_map {U = Chapter × ℕ} (λ (key : ℕ). (chapter, key)) holder
  in_chapter chapter holder found held =
      at_cut
      ∙ ap (option_and_then (λ (chapter : Chapter). option_map {U = Chapter × ℕ} (λ (key : ℕ). (chapter, key)) (first_holder chapter.document (chars back)))) found
      ∙ ap (option_map {U = Chapter × ℕ} (λ (key : ℕ). (chapter, key))) (sym held)
