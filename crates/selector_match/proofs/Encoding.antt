-- The tests of attributes are the same on the bytes of texts as on their characters.
use Rattle.std.proofs.Common.{◌≡◌, ◌==◌, ◌-◌, ℕ, ◌<◌, ◌≤◌, Bool, true, false, not, ◌&&◌, ◌||◌, cond, nat_eq, nat_lt, List, [], ◌∷◌, ◌++◌, map, length, get_or, take, drop, refl, sym, ap, subst, ◌∙◌, inl, inr, arith, length-append, encode_utf8_all, eq-eqb, Decides}
use Rattle.std.specs.Char.{is_ascii_whitespace, to_ascii_lowercase}
use Rattle.std.specs.List.{list_any, onto_first, starts_with, ends_with}
use Rattle.std.specs.Prelude.{codes}
use Rattle.std.specs.Str.{chars, bytes_eq, all_scalars, IsUtf8, IsCharBoundary}
use Rattle.std.proofs.lemmas.Bool.{cases_Bool, cases_lt, and_parts, and_from, or_cases, or_left, or_right}
use Rattle.std.proofs.lemmas.Bool.Decides.{same_from_decides, nat_tests, Decides-eqb}
use Rattle.std.proofs.lemmas.List.{map-append, length-map}
use Rattle.std.proofs.lemmas.Slice.Eq.{bytes_eq-Decides, starts_is, ends_is}
use Rattle.std.proofs.lemmas.Str.{encode_ascii, encodes-append, encodes-chars, encodes_same, chars-encodes, scalars-chars, IsUtf8-take, IsUtf8-drop, IsCharBoundary-from_take, IsCharBoundary-at_seam, IsCharBoundary-start}
use Rattle.std.proofs.Math.ListN.{get_or-append}
use Rattle.std.proofs.Math.Seq.{take-append_seam, drop-append_seam, get_or-append_right}
use Rattle.std.proofs.Math.Utf8.{encode, scalar, low_scalar}
use Rattle.plain_types.specs.StyleNames.{lower_case}
use Rattle.plain_types.specs.declared.selector_parts.AttrTest.{AttrTest}
use Rattle.plain_types.specs.declared.selector_parts.AttrTest.TheVariants.{Present, Equal, Word, Dash, Start, End, Inside}
use Rattle.selector_match.proofs.TextLaws.{no-bytes}
use Rattle.selector_match.specs.Attributes.{parts, has_word, contains, passes, in_case, passes_in_case}

abbrev Each : (ℕ → Type 0) → List ℕ → Type 0
Each P [] = Unit {0}
Each P (b ∷ bs) = P b × Each P bs

each-if : (P : ℕ → Type 0) (b : Bool) (xs ys : List ℕ) → Each P xs → Each P ys → Each P (cond b xs ys)
each-if P true xs ys p q = p
each-if P false xs ys p q = q

-- the bytes of a character that is not ASCII's are none of ASCII's
high-bytes : (c : ℕ) → 128 ≤ c → Each (λ b. 128 ≤ b) (encode c)
unfolding encode
high-bytes c high =
    let High : ℕ → Type 0 = λ b. 128 ≤ b in
    each-if High (nat_lt c 128) _ _ (high, tt)
    (each-if High (nat_lt c 2048) _ _ (omega arith, (omega arith, tt))
    (each-if High (nat_lt c 65536) _ _ (omega arith, (omega arith, (omega arith, tt)))
    (omega arith, (omega arith, (omega arith, (omega arith, tt))))))

lower-high : (b : ℕ) → 128 ≤ b → to_ascii_lowercase b ≡ b
lower-high b h = grind (arith, nat_tests)

lower-low : (b : ℕ) → b < 128 → to_ascii_lowercase b < 128
lower-low b h = grind (arith, nat_tests)

blank-high : (b : ℕ) → 128 ≤ b → is_ascii_whitespace b ≡ false
blank-high b h = grind (arith, nat_tests)

lower-all : (bs : List ℕ) → Each (λ b. 128 ≤ b) bs → lower_case bs ≡ bs
lower-all [] h = refl
lower-all (b ∷ bs) h = ap (λ x. x ∷ lower_case bs) (lower-high b h.0) ∙ ap (λ rest. b ∷ rest) (lower-all bs h.1)

lower-one : (c : ℕ) → lower_case (encode c) ≡ encode (to_ascii_lowercase c)
lower-one c = elim (cases_lt c 128) [
  | inl low ↦ ap lower_case (encode_ascii c low) ∙ sym (encode_ascii (to_ascii_lowercase c) (lower-low c low))
  | inr high ↦ lower-all (encode c) (high-bytes c high) ∙ ap encode (sym (lower-high c high))
]

lower-encode : (cs : List ℕ) → lower_case (encode_utf8_all cs) ≡ encode_utf8_all (lower_case cs)
lower-encode [] = refl
lower-encode (c ∷ cs) =
    map-append to_ascii_lowercase (encode c) (encode_utf8_all cs)
    ∙ ap (λ bs. bs ++ lower_case (encode_utf8_all cs)) (lower-one c)
    ∙ ap (λ bs. encode (to_ascii_lowercase c) ++ bs) (lower-encode cs)

scalar-lower : (c : ℕ) → scalar c ≡ true → scalar (to_ascii_lowercase c) ≡ true
scalar-lower c h = elim (cases_lt c 128) [
  | inl low ↦ let below = lower-low c low in low_scalar (to_ascii_lowercase c) (omega arith)
  | inr high ↦ ap scalar (lower-high c high) ∙ h
]

scalars-lower : (cs : List ℕ) → all_scalars cs ≡ true → all_scalars (lower_case cs) ≡ true
scalars-lower [] h = refl
scalars-lower (c ∷ cs) h =
    let both = and_parts (scalar c) (all_scalars cs) h in
    and_from (scalar (to_ascii_lowercase c)) (all_scalars (lower_case cs)) (scalar-lower c both.0) (scalars-lower cs both.1)

-- Words.

split-run : (bs rest : List ℕ) → Each (λ b. 128 ≤ b) bs → (first : List ℕ) (others : List (List ℕ)) → parts rest ≡ first ∷ others → parts (bs ++ rest) ≡ (bs ++ first) ∷ others
split-run [] rest h first others is = is
split-run (b ∷ bs) rest h first others is =
    ap (λ t. cond t ([] ∷ parts (bs ++ rest)) (onto_first b (parts (bs ++ rest)))) (blank-high b h.0)
    ∙ ap (onto_first b) (split-run bs rest h.1 first others is)

first-part : (cs : List ℕ) → (first : List ℕ) × (others : List (List ℕ)) × (parts cs ≡ first ∷ others)
first-part [] = ([], [], refl)
first-part (c ∷ cs) = elim (is_ascii_whitespace c) as (λ t. (first : List ℕ) × (others : List (List ℕ)) × (cond t ([] ∷ parts cs) (onto_first c (parts cs)) ≡ first ∷ others)) [
  | true ↦ ([], parts cs, refl)
  | false ↦ let rest = first-part cs in (c ∷ rest.0, rest.1, ap (onto_first c) rest.2)
]

inside : (c : ℕ) (cs first : List ℕ) (others : List (List ℕ)) → is_ascii_whitespace c ≡ false → parts cs ≡ first ∷ others → map encode_utf8_all (parts (c ∷ cs)) ≡ (encode c ++ encode_utf8_all first) ∷ map encode_utf8_all others
inside c cs first others dark is =
    ap (λ t. map encode_utf8_all (cond t ([] ∷ parts cs) (onto_first c (parts cs)))) dark ∙ ap (λ all. map encode_utf8_all (onto_first c all)) is

split-step : (c : ℕ) (cs : List ℕ) → parts (encode_utf8_all cs) ≡ map encode_utf8_all (parts cs) → parts (encode c ++ encode_utf8_all cs) ≡ map encode_utf8_all (parts (c ∷ cs))
split-step c cs is =
    let some = first-part cs in
    let bytes : parts (encode_utf8_all cs) ≡ encode_utf8_all some.0 ∷ map encode_utf8_all some.1 = is ∙ ap (map encode_utf8_all) some.2 in
    elim (cases_lt c 128) [
      | inr high ↦ split-run (encode c) (encode_utf8_all cs) (high-bytes c high) (encode_utf8_all some.0) (map encode_utf8_all some.1) bytes ∙ sym (inside c cs some.0 some.1 (blank-high c high) some.2)
      | inl low ↦
          ap (λ bs. parts (bs ++ encode_utf8_all cs)) (encode_ascii c low)
          ∙ (elim (cases_Bool (is_ascii_whitespace c)) as (λ _. parts (c ∷ encode_utf8_all cs) ≡ map encode_utf8_all (parts (c ∷ cs))) [
            | inl blank ↦ rw blank (ap (λ all. [] ∷ all) is)
            | inr dark ↦
                ap (λ t. cond t ([] ∷ parts (encode_utf8_all cs)) (onto_first c (parts (encode_utf8_all cs)))) dark
                ∙ ap (onto_first c) bytes
                ∙ ap (λ bs. (bs ++ encode_utf8_all some.0) ∷ map encode_utf8_all some.1) (sym (encode_ascii c low))
                ∙ sym (inside c cs some.0 some.1 dark some.2)
          ])
    ]

pub parts-encode : (cs : List ℕ) → parts (encode_utf8_all cs) ≡ map encode_utf8_all (parts cs)
parts-encode [] = refl
parts-encode (c ∷ cs) = split-step c cs (parts-encode cs)

same-bytes : (cs vs : List ℕ) → bytes_eq (encode_utf8_all cs) (encode_utf8_all vs) ≡ bytes_eq cs vs
same-bytes cs vs =
    let of_bytes = bytes_eq-Decides (encode_utf8_all cs) (encode_utf8_all vs) in
    let of_characters = bytes_eq-Decides cs vs in
    same_from_decides _ _ of_bytes (λ e. ap encode_utf8_all (of_characters.0 e), λ e. of_characters.1 (encodes_same cs vs e))

one-part : (vs : List ℕ) (all : List (List ℕ)) → list_any (bytes_eq (encode_utf8_all vs)) (map encode_utf8_all all) ≡ list_any (bytes_eq vs) all
one-part vs [] = refl
one-part vs (part ∷ rest) =
    ap (λ b. b || list_any (bytes_eq (encode_utf8_all vs)) (map encode_utf8_all rest)) (same-bytes vs part) ∙ ap (λ b. bytes_eq vs part || b) (one-part vs rest)

-- Where one text begins, ends or stands in another.

abbrev pub Begins : List ℕ → List ℕ → Type 0
Begins text value = (rest : List ℕ) × (text ≡ value ++ rest)

abbrev pub Ends : List ℕ → List ℕ → Type 0
Ends text value = (front : List ℕ) × (text ≡ front ++ value)

abbrev Stands : List ℕ → List ℕ → Type 0
Stands text value = (front : List ℕ) × (rest : List ℕ) × (text ≡ front ++ (value ++ rest))

pub starts-Decides : (text value : List ℕ) → Decides (starts_with nat_eq text value) (Begins text value)
starts-Decides text value =
    let h = starts_is Decides-eqb text value (starts_with nat_eq text value) refl in
    (λ e. (drop (length value) text, h.0 e), λ b. h.1 b.0 b.1)

pub ends-Decides : (text value : List ℕ) → Decides (ends_with nat_eq text value) (Ends text value)
ends-Decides text value =
    let h = ends_is Decides-eqb text value (ends_with nat_eq text value) refl in
    (λ e. (take (length text - length value) text, h.0 e), λ b. h.1 b.0 b.1)

contains-Decides : (text value : List ℕ) → Decides (contains text value) (Stands text value)
contains-Decides [] value =
    let h = starts-Decides [] value in
    (λ e. let b = h.0 e in ([], b.0, b.1), λ s. from-nothing s.0 s.1 s.2)
  where
    from-nothing : (front rest : List ℕ) → [] ≡ front ++ (value ++ rest) → contains [] value ≡ true
    from-nothing [] rest e = (starts-Decides [] value).1 (rest, e)
    from-nothing (x ∷ front) rest e = absurd (cc)
contains-Decides (x ∷ text) value =
    let h = starts-Decides (x ∷ text) value in
    let k = contains-Decides text value in (
      λ e. elim (or_cases (starts_with nat_eq (x ∷ text) value) (contains text value) e) [
        | inl here ↦ let b = h.0 here in ([], b.0, b.1)
        | inr there ↦ let s = k.0 there in (x ∷ s.0, s.1, ap (λ rest. x ∷ rest) s.2)
      ],
      λ s. from-some k.1 s.0 s.1 s.2,
    )
  where
    from-some : (Stands text value → contains text value ≡ true) → (front rest : List ℕ) → x ∷ text ≡ front ++ (value ++ rest) → contains (x ∷ text) value ≡ true
    from-some within [] rest e = or_left (starts_with nat_eq (x ∷ text) value) (contains text value) ((starts-Decides (x ∷ text) value).1 (rest, e))
    from-some within (y ∷ front) rest e =
        let same : text ≡ front ++ (value ++ rest) = cc in
        or_right (starts_with nat_eq (x ∷ text) value) (contains text value) (within (front, rest, same))

-- Texts may be cut where one of the parts is text.

cut-after : (bytes front rest : List ℕ) → IsUtf8 bytes → bytes ≡ front ++ rest → IsUtf8 front → IsUtf8 rest
cut-after bytes front rest utf8 is text =
    let at : length front ≤ length bytes = omega (arith, ap length is, length-append front rest) in
    let taken : take (length front) bytes ≡ front = ap (take (length front)) is ∙ take-append_seam front rest in
    let dropped : drop (length front) bytes ≡ rest = ap (drop (length front)) is ∙ drop-append_seam front rest in
    subst IsUtf8 dropped (IsUtf8-drop bytes (length front) utf8 (IsCharBoundary-from_take bytes (length front) utf8 at (subst IsUtf8 (sym taken) text)))

cut-before : (bytes front rest : List ℕ) → IsUtf8 bytes → bytes ≡ front ++ rest → IsCharBoundary bytes (length front) → IsUtf8 front
cut-before bytes front rest utf8 is boundary =
    let taken : take (length front) bytes ≡ front = ap (take (length front)) is ∙ take-append_seam front rest in
    subst IsUtf8 taken (IsUtf8-take bytes (length front) utf8 boundary)

read-back : (bytes : List ℕ) → IsUtf8 bytes → bytes ≡ encode_utf8_all (chars bytes)
read-back bytes utf8 = sym (encodes-chars bytes utf8)

module _ (cs vs : List ℕ) (text : all_scalars cs ≡ true) (value : all_scalars vs ≡ true) where
  bytes_utf8 : IsUtf8 (encode_utf8_all cs)
  bytes_utf8 = (cs, (text, refl))

  value_utf8 : IsUtf8 (encode_utf8_all vs)
  value_utf8 = (vs, (value, refl))

  begins-up : Begins (encode_utf8_all cs) (encode_utf8_all vs) → Begins cs vs
  begins-up b =
      let rest = cut-after (encode_utf8_all cs) (encode_utf8_all vs) b.0 bytes_utf8 b.1 value_utf8 in
      (chars b.0, encodes_same cs (vs ++ chars b.0) (b.1 ∙ ap (λ r. encode_utf8_all vs ++ r) (read-back b.0 rest) ∙ sym (encodes-append vs (chars b.0))))

  begins-down : Begins cs vs → Begins (encode_utf8_all cs) (encode_utf8_all vs)
  begins-down b = (encode_utf8_all b.0, ap encode_utf8_all b.1 ∙ encodes-append vs b.0)

  starts-same : starts_with nat_eq (encode_utf8_all cs) (encode_utf8_all vs) ≡ starts_with nat_eq cs vs
  starts-same =
      let of_bytes = starts-Decides (encode_utf8_all cs) (encode_utf8_all vs) in
      let of_characters = starts-Decides cs vs in
      same_from_decides _ _ of_bytes (λ e. begins-down (of_characters.0 e), λ b. of_characters.1 (begins-up b))

  ends-up : Ends (encode_utf8_all cs) (encode_utf8_all vs) → Ends cs vs
  ends-up b =
      let front = cut-before (encode_utf8_all cs) b.0 (encode_utf8_all vs) bytes_utf8 b.1 (IsCharBoundary-at_seam (encode_utf8_all cs) b.0 (encode_utf8_all vs) b.1 value_utf8) in
      (chars b.0, encodes_same cs (chars b.0 ++ vs) (b.1 ∙ ap (λ f. f ++ encode_utf8_all vs) (read-back b.0 front) ∙ sym (encodes-append (chars b.0) vs)))

  ends-down : Ends cs vs → Ends (encode_utf8_all cs) (encode_utf8_all vs)
  ends-down b = (encode_utf8_all b.0, ap encode_utf8_all b.1 ∙ encodes-append b.0 vs)

  ends-same : ends_with nat_eq (encode_utf8_all cs) (encode_utf8_all vs) ≡ ends_with nat_eq cs vs
  ends-same =
      let of_bytes = ends-Decides (encode_utf8_all cs) (encode_utf8_all vs) in
      let of_characters = ends-Decides cs vs in
      same_from_decides _ _ of_bytes (λ e. ends-down (of_characters.0 e), λ b. of_characters.1 (ends-up b))

  stands-down : Stands cs vs → Stands (encode_utf8_all cs) (encode_utf8_all vs)
  stands-down s = (encode_utf8_all s.0, encode_utf8_all s.1, ap encode_utf8_all s.2 ∙ encodes-append s.0 (vs ++ s.1) ∙ ap (λ r. encode_utf8_all s.0 ++ r) (encodes-append vs s.1))

  -- a value that is not empty begins with a byte that begins a character
  value-at : (front rest : List ℕ) → 0 < length (encode_utf8_all vs) → encode_utf8_all cs ≡ front ++ (encode_utf8_all vs ++ rest) → IsCharBoundary (encode_utf8_all cs) (length front)
  value-at front rest some is =
      let nothing : length front - length front ≡ 0 = omega arith in
      let first : get_or (encode_utf8_all cs) (length front) 0 ≡ get_or (encode_utf8_all vs) 0 0 =
      ap (λ bytes. get_or bytes (length front) 0) is ∙ get_or-append_right front (encode_utf8_all vs ++ rest) (length front) 0 (omega arith) ∙ ap (λ i. get_or (encode_utf8_all vs ++ rest) i 0) nothing ∙ get_or-append (encode_utf8_all vs) rest 0 0 some in (
        omega (arith, ap length is, length-append front (encode_utf8_all vs ++ rest)),
        λ within high. subst (λ b. 192 ≤ b) (sym first) ((IsCharBoundary-start (encode_utf8_all vs) value_utf8).1 some (subst (λ b. 128 ≤ b) first high)),
      )

  stands-up : 0 < length (encode_utf8_all vs) → Stands (encode_utf8_all cs) (encode_utf8_all vs) → Stands cs vs
  stands-up some s =
      let front = cut-before (encode_utf8_all cs) s.0 (encode_utf8_all vs ++ s.1) bytes_utf8 s.2 (value-at s.0 s.1 some s.2) in
      let behind = cut-after (encode_utf8_all cs) s.0 (encode_utf8_all vs ++ s.1) bytes_utf8 s.2 front in
      let rest = cut-after (encode_utf8_all vs ++ s.1) (encode_utf8_all vs) s.1 behind refl value_utf8 in (
        chars s.0,
        chars s.1,
        encodes_same cs (chars s.0 ++ (vs ++ chars s.1))
            (s.2
            ∙ ap (λ f. f ++ (encode_utf8_all vs ++ s.1)) (read-back s.0 front)
            ∙ ap (λ r. encode_utf8_all (chars s.0) ++ (encode_utf8_all vs ++ r)) (read-back s.1 rest)
            ∙ sym (encodes-append (chars s.0) (vs ++ chars s.1) ∙ ap (λ r. encode_utf8_all (chars s.0) ++ r) (encodes-append vs (chars s.1)))),
      )

  contains-same : 0 < length (encode_utf8_all vs) → contains (encode_utf8_all cs) (encode_utf8_all vs) ≡ contains cs vs
  contains-same some =
      let of_bytes = contains-Decides (encode_utf8_all cs) (encode_utf8_all vs) in
      let of_characters = contains-Decides cs vs in
      same_from_decides _ _ of_bytes (λ e. stands-down (of_characters.0 e), λ s. of_characters.1 (stands-up some s))

  none-same : (length (encode_utf8_all vs) == 0) ≡ (length vs == 0)
  none-same = no-bytes (encode_utf8_all vs) vs (chars-encodes vs value) refl

  word-same : has_word (encode_utf8_all cs) (encode_utf8_all vs) ≡ has_word cs vs
  word-same =
      ap (λ b. not b && list_any (bytes_eq (encode_utf8_all vs)) (parts (encode_utf8_all cs))) none-same
      ∙ ap (λ all. not (length vs == 0) && list_any (bytes_eq (encode_utf8_all vs)) all) (parts-encode cs)
      ∙ ap (λ b. not (length vs == 0) && b) (one-part vs (parts cs))

  -- a test of a value that is not empty
  guarded : (f g : Bool) → (0 < length (encode_utf8_all vs) → f ≡ g) → (not (length (encode_utf8_all vs) == 0) && f) ≡ (not (length vs == 0) && g)
  guarded f g same = elim (cases_lt 0 (length (encode_utf8_all vs))) [
    | inl some ↦ ap (λ b. not (length (encode_utf8_all vs) == 0) && b) (same some) ∙ ap (λ b. not b && g) none-same
    | inr none ↦
        let empty : (length (encode_utf8_all vs) == 0) ≡ true = eq-eqb (length (encode_utf8_all vs)) 0 (omega arith) in
        ap (λ b. not b && f) empty ∙ sym (ap (λ b. not b && g) (sym none-same ∙ empty))
  ]

hyphen : encode_utf8_all (codes "-") ≡ codes "-"
hyphen = ap (λ bs. bs ++ []) (encode_ascii 45 (omega arith))

scalars-append : (xs ys : List ℕ) → all_scalars xs ≡ true → all_scalars ys ≡ true → all_scalars (xs ++ ys) ≡ true
scalars-append [] ys h k = k
scalars-append (x ∷ xs) ys h k =
    let both = and_parts (scalar x) (all_scalars xs) h in
    and_from (scalar x) (all_scalars (xs ++ ys)) both.0 (scalars-append xs ys both.1 k)

passes-same : (test : AttrTest) (cs vs : List ℕ) → all_scalars cs ≡ true → all_scalars vs ≡ true → passes test (encode_utf8_all cs) (encode_utf8_all vs) ≡ passes test cs vs
passes-same Present cs vs text value = refl
passes-same Equal cs vs text value = same-bytes cs vs
passes-same Word cs vs text value = word-same cs vs text value
passes-same Dash cs vs text value =
    let dashed : all_scalars (vs ++ codes "-") ≡ true = scalars-append vs (codes "-") value (and_from (scalar 45) true (low_scalar 45 (omega arith)) refl) in
    ap (λ b. b || starts_with nat_eq (encode_utf8_all cs) (encode_utf8_all vs ++ codes "-")) (same-bytes cs vs)
    ∙ ap (λ bs. bytes_eq cs vs || starts_with nat_eq (encode_utf8_all cs) bs) (sym (encodes-append vs (codes "-") ∙ ap (λ bs. encode_utf8_all vs ++ bs) hyphen))
    ∙ ap (λ b. bytes_eq cs vs || b) (starts-same cs (vs ++ codes "-") text dashed)
passes-same Start cs vs text value = guarded cs vs text value (starts_with nat_eq (encode_utf8_all cs) (encode_utf8_all vs)) (starts_with nat_eq cs vs) (λ some. starts-same cs vs text value)
passes-same End cs vs text value = guarded cs vs text value (ends_with nat_eq (encode_utf8_all cs) (encode_utf8_all vs)) (ends_with nat_eq cs vs) (λ some. ends-same cs vs text value)
passes-same Inside cs vs text value = guarded cs vs text value (contains (encode_utf8_all cs) (encode_utf8_all vs)) (contains cs vs) (contains-same cs vs text value)

in-case-encode : (fold : Bool) (cs : List ℕ) → in_case fold (encode_utf8_all cs) ≡ encode_utf8_all (in_case fold cs)
in-case-encode true cs = lower-encode cs
in-case-encode false cs = refl

in-case-scalars : (fold : Bool) (cs : List ℕ) → all_scalars cs ≡ true → all_scalars (in_case fold cs) ≡ true
in-case-scalars true cs h = scalars-lower cs h
in-case-scalars false cs h = h

-- the test of two texts, in bytes and in characters
pub passes-text : (fold : Bool) (test : AttrTest) (text value : List ℕ) → IsUtf8 text → IsUtf8 value → passes_in_case fold test text value ≡ passes_in_case fold test (chars text) (chars value)
passes-text fold test text value utf8 value_utf8 =
    let cs = chars text in
    let vs = chars value in
    ap (λ bs. passes test (in_case fold bs) (in_case fold value)) (read-back text utf8)
    ∙ ap (λ bs. passes test (in_case fold (encode_utf8_all cs)) (in_case fold bs)) (read-back value value_utf8)
    ∙ ap (λ bs. passes test bs (in_case fold (encode_utf8_all vs))) (in-case-encode fold cs)
    ∙ ap (λ bs. passes test (encode_utf8_all (in_case fold cs)) bs) (in-case-encode fold vs)
    ∙ passes-same test (in_case fold cs) (in_case fold vs) (in-case-scalars fold cs (scalars-chars text utf8)) (in-case-scalars fold vs (scalars-chars value value_utf8))

pub passes-by : (fold : Bool) (test known : AttrTest) (text value first second : List ℕ) (r : Bool) → test ≡ known → first ≡ text → second ≡ value → r ≡ passes known (in_case fold first) (in_case fold second) → IsUtf8 text → IsUtf8 value → r ≡ passes_in_case fold test (chars text) (chars value)
passes-by fold test known text value first second r is of_text of_value says utf8 value_utf8 =
    says
    ∙ ap (λ bs. passes known (in_case fold bs) (in_case fold second)) of_text
    ∙ ap (λ bs. passes known (in_case fold text) (in_case fold bs)) of_value
    ∙ ap (λ t. passes t (in_case fold text) (in_case fold value)) (sym is)
    ∙ passes-text fold test text value utf8 value_utf8

length-in-case : (fold : Bool) (xs : List ℕ) → length (in_case fold xs) ≡ length xs
length-in-case true xs = length-map xs to_ascii_lowercase
length-in-case false xs = refl

-- a value that is not empty, and one that is
pub not-empty-by : (fold : Bool) (value : List ℕ) (empty r s : Bool) → empty ≡ (length value == 0) → empty ≡ false → r ≡ s → r ≡ (not (length (in_case fold value) == 0) && s)
not-empty-by fold value empty r s is not_empty same =
    same ∙ sym (ap (λ n. not (n == 0) && s) (length-in-case fold value) ∙ ap (λ b. not b && s) (sym is ∙ not_empty))

pub empty-by : (fold : Bool) (value : List ℕ) (empty s : Bool) → empty ≡ (length value == 0) → empty ≡ true → not empty ≡ (not (length (in_case fold value) == 0) && s)
empty-by fold value empty s is all_empty =
    ap not all_empty ∙ sym (ap (λ n. not (n == 0) && s) (length-in-case fold value) ∙ ap (λ b. not b && s) (sym is ∙ all_empty))
