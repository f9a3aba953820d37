-- Names in ASCII lower case, as bytes and as characters.
use Rattle.std.proofs.Common.{◌≡◌, ℕ, ◌<◌, List, [], ◌∷◌, map, Bool, true, false, ◌&&◌, ◌+◌, length, get_or, drop, nat_lt, nat_eq, cond, add-one, unwrap_or, Option, Some, None, refl, sym, ap, ◌∙◌, arith, inl, inr}
use Rattle.std.specs.Borrow.{Bor}
use Rattle.std.specs.Char.{to_ascii_lowercase}
use Rattle.std.specs.List.{find, list_all, list_any}
use Rattle.std.specs.Prelude.{is_some, option_copied, encode_utf8_all}
use Rattle.std.specs.Str.{chars, bytes_eq, IsAscii, IsUtf8, str_eq_ignore_ascii_case}
use Rattle.std.proofs.lemmas.Bool.{and_parts, and_from, cases_Bool, ltb-true, eqb-true}
use Rattle.std.proofs.lemmas.Bool.Decides.{same_from_decides, Decides-like, nat_tests}
use Rattle.std.proofs.Math.Seq.{drop-cons}
use Rattle.std.proofs.lemmas.Slice.Eq.{bytes_eq-Decides}
use Rattle.std.proofs.lemmas.Str.{chars-IsAscii, encodes-IsAscii, encodes-chars}
use Rattle.std.proofs.lemmas.Str.Ascii.{IsAscii-nil, IsAscii-cons}
use Rattle.plain_types.specs.StyleNames.{lower_case}

abbrev is_ascii : List ℕ → Bool
is_ascii = list_all (λ c. nat_lt c 128)

abbrev is_lower : List ℕ → Bool
is_lower = list_all (λ c. nat_eq (to_ascii_lowercase c) c)

-- a name in ASCII lower case
abbrev pub is_plain : List ℕ → Bool
is_plain name = is_ascii name && is_lower name

IsAscii-is_ascii : (bs : List ℕ) → is_ascii bs ≡ true → IsAscii bs
IsAscii-is_ascii [] h = IsAscii-nil
IsAscii-is_ascii (b ∷ bs) h = let parts = and_parts (nat_lt b 128) (is_ascii bs) h in IsAscii-cons b bs (ltb-true b 128 parts.0) (IsAscii-is_ascii bs parts.1)

lower-is_lower : (name : List ℕ) → is_lower name ≡ true → lower_case name ≡ name
lower-is_lower [] h = refl
lower-is_lower (c ∷ cs) h = let parts = and_parts (nat_eq (to_ascii_lowercase c) c) (is_lower cs) h in
    let first : to_ascii_lowercase c ≡ c = eqb-true (to_ascii_lowercase c) c parts.0 in
    ap (λ x. x ∷ lower_case cs) first ∙ ap (λ rest. c ∷ rest) (lower-is_lower cs parts.1)

below : (c : ℕ) → nat_lt (to_ascii_lowercase c) 128 ≡ true → nat_lt c 128 ≡ true
below c h = grind (arith, nat_tests)

is_ascii-lower : (bs : List ℕ) → is_ascii (lower_case bs) ≡ true → is_ascii bs ≡ true
is_ascii-lower [] h = refl
is_ascii-lower (b ∷ bs) h = let parts = and_parts (nat_lt (to_ascii_lowercase b) 128) (is_ascii (lower_case bs)) h in
    and_from (nat_lt b 128) (is_ascii bs) (below b parts.0) (is_ascii-lower bs parts.1)

module _ (name known : List ℕ) (text : IsUtf8 name) (plain : is_plain known ≡ true) where
  ascii : is_ascii known ≡ true
  ascii = (and_parts (is_ascii known) (is_lower known) plain).0

  lower : lower_case known ≡ known
  lower = lower-is_lower known (and_parts (is_ascii known) (is_lower known) plain).1

  chars-known : chars known ≡ known
  chars-known = chars-IsAscii known (IsAscii-is_ascii known ascii)

  is_known : lower_case name ≡ lower_case known → lower_case (chars name) ≡ known
  is_known e =
      let name_ascii : is_ascii name ≡ true = is_ascii-lower name (ap is_ascii (e ∙ lower) ∙ ascii) in
      ap lower_case (chars-IsAscii name (IsAscii-is_ascii name name_ascii)) ∙ e ∙ lower

  is_known_back : lower_case (chars name) ≡ known → lower_case name ≡ lower_case known
  is_known_back e =
      let name_ascii : is_ascii (chars name) ≡ true = is_ascii-lower (chars name) (ap is_ascii e ∙ ascii) in
      let same : chars name ≡ name = sym (encodes-IsAscii (chars name) (IsAscii-is_ascii (chars name) name_ascii)) ∙ encodes-chars name text in
      ap lower_case (sym same) ∙ e ∙ sym lower

  -- a test of bytes is the test of characters
  same_test : str_eq_ignore_ascii_case name known ≡ bytes_eq (lower_case (chars name)) known
  same_test =
      same_from_decides _ _ (Decides-like _ is_known is_known_back (bytes_eq-Decides (lower_case name) (lower_case known)))
      (bytes_eq-Decides (lower_case (chars name)) known)

  found : bytes_eq (lower_case (chars name)) known ≡ true → chars known ≡ lower_case (chars name)
  found h = chars-known ∙ sym ((bytes_eq-Decides (lower_case (chars name)) known).0 h)

-- the known name that a name equals but for ASCII case, in characters
pub named : (names : List (List ℕ)) (name : List ℕ) → IsUtf8 name → list_all is_plain names ≡ true
    → chars (unwrap_or (find (str_eq_ignore_ascii_case name) names) name)
    ≡ cond (list_any (bytes_eq (lower_case (chars name))) names) (lower_case (chars name)) (chars name)
named [] name text plain = refl
named (known ∷ names) name text plain =
    let parts = and_parts (is_plain known) (list_all is_plain names) plain in
    elim (cases_Bool (bytes_eq (lower_case (chars name)) known)) [
      | inl h ↦ rw (same_test name known text parts.0, h) (found name known text parts.0 h)
      | inr h ↦ rw (same_test name known text parts.0, h) (named names name text parts.1)
    ]

-- whether a name is a known one but for ASCII case, in characters
pub is_some-known : (names : List (List ℕ)) (name : List ℕ) → IsUtf8 name → list_all is_plain names ≡ true
    → is_some (find (str_eq_ignore_ascii_case name) names) ≡ list_any (bytes_eq (lower_case (chars name))) names
is_some-known [] name text plain = refl
is_some-known (known ∷ names) name text plain =
    let parts = and_parts (is_plain known) (list_all is_plain names) plain in
    elim (cases_Bool (bytes_eq (lower_case (chars name)) known)) [
      | inl h ↦ rw (same_test name known text parts.0, h) refl
      | inr h ↦ rw (same_test name known text parts.0, h) (is_some-known names name text parts.1)
    ]

abbrev pub none_known : Bor (List ℕ)
none_known = record { ref_ptr = (0, 0); now = [] }

-- a search from a place on looks at that place first
pub find-drop : {X Y : Type 0} (p : Y → Bool) (f : X → Y) (xs : List X) (i : ℕ) (d : X) → i < length xs
    → find p (map f (drop i xs)) ≡ cond (p (f (get_or xs i d))) (Some (f (get_or xs i d))) (find p (map f (drop (i + 1) xs)))
find-drop p f xs i d h = ap (λ rest. find p (map f rest)) (drop-cons xs i d h) ∙ ap (λ j. cond (p (f (get_or xs i d))) (Some (f (get_or xs i d))) (find p (map f (drop j xs)))) (sym (add-one i))

pub now_unwrap_or : (found : Option (Bor (List ℕ))) (name : Bor (List ℕ)) → (unwrap_or found name).now ≡ unwrap_or (option_copied found) name.now
now_unwrap_or None name = refl
now_unwrap_or (Some known) name = refl
