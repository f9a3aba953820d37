-- Where one text begins, ends or stands in another, ASCII case aside or not.
use Rattle.std.proofs.Common.{◌≡◌, ◌==◌, ◌+◌, ◌-◌, ℕ, suc, ◌<◌, ◌≤◌, Bool, true, false, not, ◌&&◌, ◌||◌, cond, nat_eq, nat_lt, List, [], ◌∷◌, ◌++◌, map, length, get_or, take, drop, refl, sym, ap, ◌∙◌, inl, inr, arith, add-one, length-append, take-append-drop, append_assoc, eqb-true, eq-eqb}
use Rattle.std.specs.Borrow.{Bor}
use Rattle.std.specs.Char.{is_ascii_whitespace, to_ascii_lowercase}
use Rattle.std.specs.List.{list_any, position, position_or_len, slice_split, onto_first, starts_with, ends_with, take-map, drop-map}
use Rattle.std.specs.Prelude.{codes, Option, Some, None, is_some, IfSome, IfNone}
use Rattle.std.specs.Str.{bytes_eq}
use Rattle.std.proofs.lemmas.Bool.{ltb-true, both_ways, false_from_ne_true}
use Rattle.std.proofs.lemmas.Bool.Decides.{same_from_decides, nat_tests}
use Rattle.std.proofs.lemmas.List.{map-append, length-map, take_rest, drop-drop}
use Rattle.std.proofs.lemmas.List.Splits.{slice_split_first}
use Rattle.std.proofs.lemmas.Option.{none-some, same_Some}
use Rattle.std.proofs.lemmas.Slice.Eq.{bytes_eq-Decides}
use Rattle.std.proofs.Math.Seq.{drop-cons, take-append_seam, drop-append_seam}
use Rattle.forest.proofs.SpotLaws.{chosen}
use Rattle.plain_types.specs.StyleNames.{lower_case}
use Rattle.selector_match.specs.Attributes.{contains, parts, has_word, in_case}
use Rattle.selector_match.proofs.Encoding.{starts-Decides}

pub case-append : (fold : Bool) (xs ys : List ℕ) → in_case fold (xs ++ ys) ≡ in_case fold xs ++ in_case fold ys
case-append true xs ys = map-append to_ascii_lowercase xs ys
case-append false xs ys = refl

pub case-length : (fold : Bool) (xs : List ℕ) → length (in_case fold xs) ≡ length xs
case-length true xs = length-map xs to_ascii_lowercase
case-length false xs = refl

-- the text begins with the value, and this follows
pub rest-found : (fold : Bool) (text value : List ℕ) → bytes_eq (in_case fold (take (length value) text)) (in_case fold value) ≡ true → in_case fold text ≡ in_case fold value ++ in_case fold (drop (length value) text)
rest-found fold text value same =
    ap (in_case fold) (sym (take-append-drop (length value) text))
    ∙ case-append fold (take (length value) text) (drop (length value) text)
    ∙ ap (λ front. front ++ in_case fold (drop (length value) text)) ((bytes_eq-Decides (in_case fold (take (length value) text)) (in_case fold value)).0 same)

pub begins-found : (text value rest : List ℕ) → text ≡ value ++ rest → starts_with nat_eq text value ≡ true
begins-found text value rest is = (starts-Decides text value).1 (rest, is)

case-take : (fold : Bool) (n : ℕ) (xs : List ℕ) → in_case fold (take n xs) ≡ take n (in_case fold xs)
case-take true n xs = sym (take-map to_ascii_lowercase n xs)
case-take false n xs = refl

case-drop : (fold : Bool) (n : ℕ) (xs : List ℕ) → in_case fold (drop n xs) ≡ drop n (in_case fold xs)
case-drop true n xs = sym (drop-map to_ascii_lowercase n xs)
case-drop false n xs = refl

-- a longer value, or another front, does not begin the text
pub too-long : (fold : Bool) (text value : List ℕ) → length text < length value → starts_with nat_eq (in_case fold text) (in_case fold value) ≡ false
too-long fold text value more =
    false_from_ne_true _ (λ e. let b = (starts-Decides (in_case fold text) (in_case fold value)).0 e in
    absurd (omega (arith, ap length b.1, length-append (in_case fold value) b.0, case-length fold text, case-length fold value)))

pub other-front : (fold : Bool) (text value : List ℕ) → bytes_eq (in_case fold (take (length value) text)) (in_case fold value) ≡ false → starts_with nat_eq (in_case fold text) (in_case fold value) ≡ false
other-front fold text value other =
    false_from_ne_true _ (λ e.
    let b = (starts-Decides (in_case fold text) (in_case fold value)).0 e in
    let front : in_case fold (take (length value) text) ≡ in_case fold value =
    case-take fold (length value) text ∙ ap (λ xs. take (length value) xs) b.1 ∙ ap (λ n. take n (in_case fold value ++ b.0)) (sym (case-length fold value)) ∙ take-append_seam (in_case fold value) b.0 in
    both_ways _ other ((bytes_eq-Decides (in_case fold (take (length value) text)) (in_case fold value)).1 front))

pub swapped : (xs ys : List ℕ) → bytes_eq xs ys ≡ bytes_eq ys xs
swapped xs ys =
    let first = bytes_eq-Decides xs ys in
    let second = bytes_eq-Decides ys xs in
    same_from_decides _ _ first (λ e. sym (second.0 e), λ e. second.1 (sym e))

-- what stands at the end
pub end-same : (fold : Bool) (text value : List ℕ) (r : Bool) → length value ≤ length text → r ≡ bytes_eq (in_case fold (drop (length text - length value) text)) (in_case fold value) → r ≡ ends_with nat_eq (in_case fold text) (in_case fold value)
end-same fold text value r within is =
    let last = in_case fold (drop (length text - length value) text) in
    let same : drop (length (in_case fold text) - length (in_case fold value)) (in_case fold text) ≡ last =
    ap (λ n. drop (n - length (in_case fold value)) (in_case fold text)) (case-length fold text) ∙ ap (λ n. drop (length text - n) (in_case fold text)) (case-length fold value) ∙ sym (case-drop fold (length text - length value) text) in
    is ∙ swapped last (in_case fold value) ∙ sym (ap (bytes_eq (in_case fold value)) same)

-- The value somewhere in the text.

case-cons : (fold : Bool) (x : ℕ) (xs : List ℕ) (value : List ℕ) → contains (in_case fold (x ∷ xs)) value ≡ (starts_with nat_eq (in_case fold (x ∷ xs)) value || contains (in_case fold xs) value)
case-cons true x xs value = refl
case-cons false x xs value = refl

pub contains-step : (fold : Bool) (text value : List ℕ) (start : ℕ) → start < length text → contains (in_case fold (drop start text)) value ≡ (starts_with nat_eq (in_case fold (drop start text)) value || contains (in_case fold (drop (start + 1) text)) value)
contains-step fold text value start within =
    let more : drop start text ≡ get_or text start 0 ∷ drop (suc start) text = drop-cons text start 0 within in
    ap (λ xs. contains (in_case fold xs) value) more
    ∙ case-cons fold (get_or text start 0) (drop (suc start) text) value
    ∙ ap (λ xs. starts_with nat_eq (in_case fold xs) value || contains (in_case fold (drop (suc start) text)) value) (sym more)
    ∙ ap (λ n. starts_with nat_eq (in_case fold (drop start text)) value || contains (in_case fold (drop n text)) value) (sym (add-one start))

-- A word among the parts.

blank-lower : (x : ℕ) → is_ascii_whitespace (to_ascii_lowercase x) ≡ is_ascii_whitespace x
blank-lower x = grind (arith, nat_tests)

lower-first : (x : ℕ) (all : List (List ℕ)) → onto_first (to_ascii_lowercase x) (map lower_case all) ≡ map lower_case (onto_first x all)
lower-first x [] = refl
lower-first x (part ∷ all) = refl

lower-cond : (x : ℕ) (b : Bool) (all : List (List ℕ)) → cond b ([] ∷ map lower_case all) (onto_first (to_ascii_lowercase x) (map lower_case all)) ≡ map lower_case (cond b ([] ∷ all) (onto_first x all))
lower-cond x true all = refl
lower-cond x false all = lower-first x all

parts-lower : (xs : List ℕ) → parts (lower_case xs) ≡ map lower_case (parts xs)
parts-lower [] = refl
parts-lower (x ∷ xs) =
    ap (λ b. cond b ([] ∷ parts (lower_case xs)) (onto_first (to_ascii_lowercase x) (parts (lower_case xs)))) (blank-lower x)
    ∙ ap (λ all. cond (is_ascii_whitespace x) ([] ∷ all) (onto_first (to_ascii_lowercase x) all)) (parts-lower xs)
    ∙ lower-cond x (is_ascii_whitespace x) (parts xs)

any-lower : (word : List ℕ) (all : List (List ℕ)) → list_any (λ part. bytes_eq (lower_case part) word) all ≡ list_any (bytes_eq word) (map lower_case all)
any-lower word [] = refl
any-lower word (part ∷ all) =
    ap (λ b. b || list_any (λ one. bytes_eq (lower_case one) word) all) (swapped (lower_case part) word) ∙ ap (λ b. bytes_eq word (lower_case part) || b) (any-lower word all)

any-same : (word : List ℕ) (all : List (List ℕ)) → list_any (λ part. bytes_eq part word) all ≡ list_any (bytes_eq word) all
any-same word [] = refl
any-same word (part ∷ all) =
    ap (λ b. b || list_any (λ one. bytes_eq one word) all) (swapped part word) ∙ ap (λ b. bytes_eq word part || b) (any-same word all)

part-found : (fold : Bool) (text word : List ℕ) → list_any (λ part. bytes_eq (in_case fold part) (in_case fold word)) (slice_split is_ascii_whitespace text) ≡ list_any (bytes_eq (in_case fold word)) (parts (in_case fold text))
part-found true text word = any-lower (lower_case word) (parts text) ∙ ap (list_any (bytes_eq (lower_case word))) (sym (parts-lower text))
part-found false text word = any-same word (parts text)

pub word-found : (fold : Bool) (text word : List ℕ) (empty found : Bool) → empty ≡ (length word == 0) → found ≡ list_any (λ part. bytes_eq (in_case fold part) (in_case fold word)) (slice_split is_ascii_whitespace text) → (not empty && found) ≡ has_word (in_case fold text) (in_case fold word)
word-found fold text word empty found is_empty is_found =
    ap (λ b. not b && found) (is_empty ∙ ap (λ n. n == 0) (sym (case-length fold word)))
    ∙ ap (λ b. not (length (in_case fold word) == 0) && b) (is_found ∙ part-found fold text word)

-- What follows the value.

case-hyphen : (x : ℕ) → (to_ascii_lowercase x == 45) ≡ (x == 45)
case-hyphen x = grind (arith, nat_tests)

abbrev is_dash : List ℕ → Bool
is_dash [] = true
is_dash (x ∷ rest) = x == 45

append-none : (xs : List ℕ) → xs ++ [] ≡ xs
append-none [] = refl
append-none (x ∷ xs) = ap (λ rest. x ∷ rest) (append-none xs)

dash-after : (value rest : List ℕ) → (bytes_eq (value ++ rest) value || starts_with nat_eq (value ++ rest) (value ++ codes "-")) ≡ is_dash rest
dash-after value [] = ap (λ b. b || starts_with nat_eq (value ++ []) (value ++ codes "-")) ((bytes_eq-Decides (value ++ []) value).1 (append-none value))
dash-after value (x ∷ rest) =
    let unequal : bytes_eq (value ++ x ∷ rest) value ≡ false =
    false_from_ne_true _ (λ e. absurd (omega (arith, ap length ((bytes_eq-Decides (value ++ x ∷ rest) value).0 e), length-append value (x ∷ rest)))) in
    ap (λ b. b || starts_with nat_eq (value ++ x ∷ rest) (value ++ codes "-")) unequal
    ∙ same_from_decides _ _ (starts-Decides (value ++ x ∷ rest) (value ++ codes "-")) (
      (λ e. (rest, ap (λ c. value ++ c ∷ rest) (eqb-true x 45 e) ∙ sym (append_assoc value (codes "-") rest))),
      λ b. eq-eqb x 45 (first-same x rest b.0 (
          sym (drop-append_seam value (x ∷ rest)) ∙ ap (drop (length value)) (b.1 ∙ append_assoc value (codes "-") b.0) ∙ drop-append_seam value (45 ∷ b.0))),
    )
  where
    first-same : (x : ℕ) (xs ys : List ℕ) → x ∷ xs ≡ 45 ∷ ys → x ≡ 45
    first-same x xs ys e = cc

case-dash : (fold : Bool) (rest : List ℕ) → is_dash (in_case fold rest) ≡ is_dash rest
case-dash true [] = refl
case-dash true (x ∷ rest) = case-hyphen x
case-dash false rest = refl

pub dashed : (fold : Bool) (text value rest : List ℕ) → in_case fold text ≡ in_case fold value ++ in_case fold rest → (bytes_eq (in_case fold text) (in_case fold value) || starts_with nat_eq (in_case fold text) (in_case fold value ++ codes "-")) ≡ is_dash rest
dashed fold text value rest is =
    ap (λ t. bytes_eq t (in_case fold value) || starts_with nat_eq t (in_case fold value ++ codes "-")) is ∙ dash-after (in_case fold value) (in_case fold rest) ∙ case-dash fold rest

pub not-dashed : (text value : List ℕ) → starts_with nat_eq text value ≡ false → false ≡ (bytes_eq text value || starts_with nat_eq text (value ++ codes "-"))
not-dashed text value none =
    let unequal : bytes_eq text value ≡ false =
    false_from_ne_true _ (λ e. both_ways _ none (begins-found text value [] ((bytes_eq-Decides text value).0 e ∙ sym (append-none value)))) in
    let unbegun : starts_with nat_eq text (value ++ codes "-") ≡ false =
    false_from_ne_true _ (λ e. let b = (starts-Decides text (value ++ codes "-")).0 e in both_ways _ none (begins-found text value (codes "-" ++ b.0) (b.1 ∙ append_assoc value (codes "-") b.0))) in
    sym (ap (λ b. b || starts_with nat_eq text (value ++ codes "-")) unequal ∙ unbegun)

pub dash-by-none : (rest : List ℕ) (empty : Bool) → empty ≡ (length rest == 0) → empty ≡ true → empty ≡ is_dash rest
dash-by-none [] empty is yes_empty = yes_empty
dash-by-none (x ∷ rest) empty is yes_empty = absurd (let none : length (x ∷ rest) ≡ 0 = eqb-true (length (x ∷ rest)) 0 (sym is ∙ yes_empty) in omega arith)

pub dash-by-first : (rest : List ℕ) (empty : Bool) → empty ≡ (length rest == 0) → empty ≡ false → (get_or rest 0 0 == 45) ≡ is_dash rest
dash-by-first [] empty is not_empty = absurd (both_ways _ not_empty is)
dash-by-first (x ∷ rest) empty is not_empty = refl

-- what a look-up of the rest says
pub begins-by : (fold : Bool) (text value : List ℕ) (o : Option (Bor (List ℕ)))
    → IfSome o (λ rest. in_case fold text ≡ in_case fold value ++ in_case fold rest.now) → IfNone o (starts_with nat_eq (in_case fold text) (in_case fold value) ≡ false)
    → is_some o ≡ starts_with nat_eq (in_case fold text) (in_case fold value)
begins-by fold text value None some none = sym none
begins-by fold text value (Some rest) some none = sym (begins-found (in_case fold text) (in_case fold value) (in_case fold rest.now) some)

-- The parts up to the first blank and from it on.
pub first-part : (text : List ℕ) (end : ℕ) → position is_ascii_whitespace text ≡ Some end → (slice_split is_ascii_whitespace text ≡ take end text ∷ slice_split is_ascii_whitespace (drop (end + 1) text)) × (end < length text)
first-part text end is = elim (chosen (nat_lt (position_or_len is_ascii_whitespace text) (length text)) _ _ _ is) [
  | inl h ↦
      let within : position_or_len is_ascii_whitespace text < length text = ltb-true (position_or_len is_ascii_whitespace text) (length text) h.0 in
      let at : position_or_len is_ascii_whitespace text ≡ end = same_Some _ _ h.1 in
      (slice_split_first is_ascii_whitespace text 0 within ∙ ap (λ n. take n text ∷ slice_split is_ascii_whitespace (drop (n + 1) text)) at, omega arith)
  | inr h ↦ absurd (none-some end h.1)
]

ltb-false : (x y : ℕ) → nat_lt x y ≡ false → y ≤ x
ltb-false x y h = grind (arith, nat_tests)

all-dark : (text : List ℕ) → length text ≤ position_or_len is_ascii_whitespace text → slice_split is_ascii_whitespace text ≡ text ∷ []
all-dark [] h = refl
all-dark (x ∷ xs) h =
    elim (is_ascii_whitespace x) as (λ b. length (x ∷ xs) ≤ cond (not b) (1 + position_or_len is_ascii_whitespace xs) 0 → cond b ([] ∷ slice_split is_ascii_whitespace xs) (onto_first x (slice_split is_ascii_whitespace xs)) ≡ (x ∷ xs) ∷ []) [
      | true ↦ λ none. absurd (omega arith)
      | false ↦ λ more. ap (onto_first x) (all-dark xs (omega arith))
    ] h

pub one-part : (text : List ℕ) → position is_ascii_whitespace text ≡ None → slice_split is_ascii_whitespace text ≡ text ∷ []
one-part text is = elim (chosen (nat_lt (position_or_len is_ascii_whitespace text) (length text)) _ _ _ is) [
  | inl h ↦ absurd (none-some (position_or_len is_ascii_whitespace text) (sym h.1))
  | inr h ↦ all-dark text (ltb-false (position_or_len is_ascii_whitespace text) (length text) h.0)
]

pub or_false : (a : Bool) → (a || false) ≡ a
or_false true = refl
or_false false = refl

-- what stands behind a place, and behind the one after it
pub behind : (xs : List ℕ) (i : ℕ) → take (length (take (length xs - i) (drop i xs)) - 1) (drop 1 (take (length xs - i) (drop i xs))) ≡ drop (i + 1) xs
behind xs i =
    take_rest (take (length xs - i) (drop i xs)) 1
    ∙ ap (drop 1) (take_rest xs i)
    ∙ drop-drop 1 i xs
