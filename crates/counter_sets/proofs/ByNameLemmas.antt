-- Values by names in a map: what a write of one makes of them.
use Rattle.std.proofs.Common.{◌≡◌, ◌∙◌, ℕ, Bool, true, false, cond, List, [], ◌∷◌, Option, Some, None, is_some, refl, sym, ap, inl, inr, true≢false}
use Rattle.std.specs.Map.{lookup}
use Rattle.std.specs.Option.{option_or}
use Rattle.std.specs.Str.{bytes_eq, chars, IsUtf8}
use Rattle.std.proofs.lemmas.Bool.{cases_Bool}
use Rattle.std.proofs.lemmas.Slice.Eq.{bytes_eq-Decides}
use Rattle.indexmap.specs.IndexMap.{insert_entry}
use Rattle.plain_types.proofs.TextLemmas.{bytes_eq-chars}
use Rattle.counter_sets.specs.ByNames.{by_names, value_of}

-- equal texts answer to one test
pub one_test : (other one two : List ℕ) → bytes_eq one two ≡ true → bytes_eq other one ≡ bytes_eq other two
one_test other one two e = ap (bytes_eq other) ((bytes_eq-Decides one two).0 e)

-- no text is equal to two that differ
not_both : (other one two : List ℕ) → bytes_eq one two ≡ false → bytes_eq other two ≡ true → bytes_eq other one ≡ false
not_both other one two apart same =
    elim (cases_Bool (bytes_eq other one)) [
      | inl e ↦
          let first : other ≡ one = (bytes_eq-Decides other one).0 e in
          let second : other ≡ two = (bytes_eq-Decides other two).0 same in
          absurd (true≢false (sym ((bytes_eq-Decides one two).1 (sym first ∙ second)) ∙ apart))
      | inr e ↦ e
    ]

-- a query by its bytes, in a map from keys
abbrev pub is_asked : {K : Type 0} → (K → List ℕ) → List ℕ → K → Bool
is_asked bytes query key = bytes_eq query (bytes key)

asked : {K : Type 0} (bytes : K → List ℕ) (text : (k : K) → IsUtf8 (bytes k)) (query : List ℕ) → IsUtf8 query → (key : K) → is_asked bytes query key ≡ bytes_eq (chars query) (chars (bytes key))
asked bytes text query utf8 key = bytes_eq-chars query (bytes key) utf8 (text key)

module _ {K V : Type 0} (bytes : K → List ℕ) (text : (k : K) → IsUtf8 (bytes k)) where
  module _ (name : List ℕ) (other : List ℕ) (w : V) where
    -- what an entry that takes the value shows, and what one that stays does
    taken : (key : K) (old : V) (rest : Option V) → bytes_eq name (chars (bytes key)) ≡ true
        → cond (bytes_eq other (chars (bytes key))) (Some w) rest ≡ cond (bytes_eq other name) (Some w) (cond (bytes_eq other (chars (bytes key))) (Some old) rest)
    taken key old rest e = elim (cases_Bool (bytes_eq other (chars (bytes key)))) [
      | inl h ↦ rw (one_test other name (chars (bytes key)) e, h) refl
      | inr h ↦ rw (one_test other name (chars (bytes key)) e, h) refl
    ]

    passed : (key : K) (old : V) (rest : Option V) → bytes_eq name (chars (bytes key)) ≡ false
        → cond (bytes_eq other (chars (bytes key))) (Some old) (cond (bytes_eq other name) (Some w) rest) ≡ cond (bytes_eq other name) (Some w) (cond (bytes_eq other (chars (bytes key))) (Some old) rest)
    passed key old rest e = elim (cases_Bool (bytes_eq other (chars (bytes key)))) [
      | inl h ↦ rw (h, not_both other name (chars (bytes key)) e h) refl
      | inr h ↦ rw h refl
    ]

  -- what the map has at a name is what its values have there
  pub seen : (query : List ℕ) (utf8 : IsUtf8 query) (entries : List (K × V)) → value_of (by_names bytes entries) (chars query) ≡ lookup (is_asked bytes query) entries
  seen query utf8 [] = refl
  seen query utf8 (entry ∷ entries) = elim (cases_Bool (is_asked bytes query entry.0)) [
    | inl h ↦ rw (sym (asked bytes text query utf8 entry.0), h) refl
    | inr h ↦ rw (sym (asked bytes text query utf8 entry.0), h) (seen query utf8 entries)
  ]

  -- an entry more, or in the place of the one at its name
  inserted : (entries : List (K × V)) (key : K) (w : V) (other : List ℕ)
      → value_of (by_names bytes (insert_entry (λ a b. bytes_eq (bytes a) (bytes b)) entries key w)) other ≡ cond (bytes_eq other (chars (bytes key))) (Some w) (value_of (by_names bytes entries) other)
  inserted [] key w other = refl
  inserted (entry ∷ entries) key w other = elim (cases_Bool (is_asked bytes (bytes key) entry.0)) [
    | inl h ↦ rw h (taken (chars (bytes key)) other w entry.0 entry.1 (value_of (by_names bytes entries) other) (sym (asked bytes text (bytes key) (text key) entry.0) ∙ h))
    | inr h ↦
        rw h (ap (cond (bytes_eq other (chars (bytes entry.0))) (Some entry.1)) (inserted entries key w other)
        ∙ passed (chars (bytes key)) other w entry.0 entry.1 (value_of (by_names bytes entries) other) (sym (asked bytes text (bytes key) (text key) entry.0) ∙ h))
  ]

  pub put : (entries after : List (K × V)) (key : K) (w : V) (name : List ℕ) → bytes key ≡ name → after ≡ insert_entry (λ a b. bytes_eq (bytes a) (bytes b)) entries key w → (other : List ℕ)
      → value_of (by_names bytes after) other ≡ cond (bytes_eq other (chars name)) (Some w) (value_of (by_names bytes entries) other)
  put entries after key w name named wrote other =
      ap (λ es. value_of (by_names bytes es) other) wrote ∙ inserted entries key w other ∙ ap (λ n. cond (bytes_eq other (chars n)) (Some w) (value_of (by_names bytes entries) other)) named

module _ {V : Type 0} (values : List (List ℕ × V)) (name other : List ℕ) (w : V) where
  same_name : bytes_eq other name ≡ true → value_of values other ≡ value_of values name
  same_name h = ap (value_of values) ((bytes_eq-Decides other name).0 h)

  or-some : (o rest : Option V) → is_some o ≡ true → o ≡ option_or o rest
  or-some None rest h = absurd (true≢false (sym h))
  or-some (Some x) rest h = refl

  or-none : (o : Option V) → o ≡ option_or o None
  or-none None = refl
  or-none (Some x) = refl

  -- where the name has a value already, nothing is put
  pub held : is_some (value_of values name) ≡ true → value_of values other ≡ option_or (value_of values other) (cond (bytes_eq other name) (Some w) None)
  held there = elim (cases_Bool (bytes_eq other name)) [
    | inl h ↦ rw h (or-some (value_of values other) (Some w) (ap is_some (same_name h) ∙ there))
    | inr h ↦ rw h (or-none (value_of values other))
  ]

  no_value : (o : Option V) → is_some o ≡ false → o ≡ None
  no_value None h = refl
  no_value (Some a) h = absurd (true≢false h)

  -- where it has none, the value is put
  pub put_there : is_some (value_of values name) ≡ false → cond (bytes_eq other name) (Some w) (value_of values other) ≡ option_or (value_of values other) (cond (bytes_eq other name) (Some w) None)
  put_there none = elim (cases_Bool (bytes_eq other name)) [
    | inl h ↦ rw (h, same_name h ∙ no_value (value_of values name) none) refl
    | inr h ↦ rw h (or-none (value_of values other))
  ]
