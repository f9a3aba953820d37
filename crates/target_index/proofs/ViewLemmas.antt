-- Values by ids in a map: what a write of one makes of them.
use Rattle.std.proofs.Common.{◌≡◌, ◌∙◌, ℕ, Bool, true, false, cond, List, [], ◌∷◌, Option, Some, is_some, refl, sym, ap, inl, inr, true≢false}
use Rattle.std.specs.Map.{lookup, set_value}
use Rattle.std.specs.Option.{option_map}
use Rattle.std.specs.Str.{bytes_eq, chars, IsUtf8}
use Rattle.std.proofs.lemmas.Bool.{cases_Bool}
use Rattle.std.proofs.lemmas.Slice.Eq.{bytes_eq-Decides}
use Rattle.indexmap.specs.IndexMap.{insert_entry}
use Rattle.plain_types.proofs.TextLemmas.{bytes_eq-chars}
use Rattle.target_index.specs.Views.{by_id}

-- equal texts answer to one test
one_test : (other one two : List ℕ) → bytes_eq one two ≡ true → bytes_eq other one ≡ bytes_eq other two
one_test other one two e = ap (bytes_eq other) ((bytes_eq-Decides one two).0 e)

-- no text is equal to two that differ
not_both : (other one two : List ℕ) → bytes_eq one two ≡ false → bytes_eq other two ≡ true → bytes_eq other one ≡ false
not_both other one two apart same =
    elim (cases_Bool (bytes_eq other one)) [
      | inl e ↦
          let first : other ≡ one = (bytes_eq-Decides other one).0 e in
          let second : other ≡ two = (bytes_eq-Decides other two).0 same in
          absurd (true≢false (sym ((bytes_eq-Decides one two).1 (sym first ∙ second)) ∙ apart))
      | inr e ↦ e
    ]

-- a query by its bytes, in a map from keys
abbrev pub is_asked : {K : Type 0} → (K → List ℕ) → List ℕ → K → Bool
is_asked bytes query key = bytes_eq query (bytes key)

asked : {K : Type 0} (bytes : K → List ℕ) (text : (k : K) → IsUtf8 (bytes k)) (query : List ℕ) → IsUtf8 query → (key : K) → is_asked bytes query key ≡ bytes_eq (chars query) (chars (bytes key))
asked bytes text query utf8 key = bytes_eq-chars query (bytes key) utf8 (text key)

module _ {K V W : Type 0} (bytes : K → List ℕ) (text : (k : K) → IsUtf8 (bytes k)) (show : V → W) where
  module _ (name : List ℕ) (other : List ℕ) (w : V) where
    -- what an entry that takes the value shows, and what one that stays does
    taken : (key : K) (old : V) (rest : Option W) → bytes_eq name (chars (bytes key)) ≡ true
        → cond (bytes_eq other (chars (bytes key))) (Some (show w)) rest ≡ cond (bytes_eq other name) (Some (show w)) (cond (bytes_eq other (chars (bytes key))) (Some (show old)) rest)
    taken key old rest e = elim (cases_Bool (bytes_eq other (chars (bytes key)))) [
      | inl h ↦ rw (one_test other name (chars (bytes key)) e, h) refl
      | inr h ↦ rw (one_test other name (chars (bytes key)) e, h) refl
    ]

    passed : (key : K) (old : V) (rest : Option W) → bytes_eq name (chars (bytes key)) ≡ false
        → cond (bytes_eq other (chars (bytes key))) (Some (show old)) (cond (bytes_eq other name) (Some (show w)) rest) ≡ cond (bytes_eq other name) (Some (show w)) (cond (bytes_eq other (chars (bytes key))) (Some (show old)) rest)
    passed key old rest e = elim (cases_Bool (bytes_eq other (chars (bytes key)))) [
      | inl h ↦ rw (h, not_both other name (chars (bytes key)) e h) refl
      | inr h ↦ rw h refl
    ]

  module _ (query : List ℕ) (utf8 : IsUtf8 query) where
    -- what the map has at an id is what its pairs have there
    pub seen : (entries : List (K × V)) → lookup (bytes_eq (chars query)) (by_id bytes show entries) ≡ option_map show (lookup (is_asked bytes query) entries)
    seen [] = refl
    seen (entry ∷ entries) = elim (cases_Bool (is_asked bytes query entry.0)) [
      | inl h ↦ rw (sym (asked bytes text query utf8 entry.0), h) refl
      | inr h ↦ rw (sym (asked bytes text query utf8 entry.0), h) (seen entries)
    ]

    -- a write of a value at an id that is there
    pub written : (entries : List (K × V)) (w : V) → is_some (lookup (is_asked bytes query) entries) ≡ true → (other : List ℕ)
        → lookup (bytes_eq other) (by_id bytes show (set_value (is_asked bytes query) entries w)) ≡ cond (bytes_eq other (chars query)) (Some (show w)) (lookup (bytes_eq other) (by_id bytes show entries))
    written [] w there other = absurd (true≢false (sym there))
    written (entry ∷ entries) w there other = elim (cases_Bool (is_asked bytes query entry.0)) [
      | inl h ↦ rw h (taken (chars query) other w entry.0 entry.1 (lookup (bytes_eq other) (by_id bytes show entries)) (sym (asked bytes text query utf8 entry.0) ∙ h))
      | inr h ↦
          let later : is_some (lookup (is_asked bytes query) entries) ≡ true = sym (ap (λ b. is_some (cond b (Some entry.1) (lookup (is_asked bytes query) entries))) h) ∙ there in
          rw h (ap (cond (bytes_eq other (chars (bytes entry.0))) (Some (show entry.1))) (written entries w later other)
          ∙ passed (chars query) other w entry.0 entry.1 (lookup (bytes_eq other) (by_id bytes show entries)) (sym (asked bytes text query utf8 entry.0) ∙ h))
    ]

  -- an entry more, or in the place of the one at its id
  pub inserted : (entries : List (K × V)) (key : K) (w : V) (other : List ℕ)
      → lookup (bytes_eq other) (by_id bytes show (insert_entry (λ a b. bytes_eq (bytes a) (bytes b)) entries key w)) ≡ cond (bytes_eq other (chars (bytes key))) (Some (show w)) (lookup (bytes_eq other) (by_id bytes show entries))
  inserted [] key w other = refl
  inserted (entry ∷ entries) key w other = elim (cases_Bool (is_asked bytes (bytes key) entry.0)) [
    | inl h ↦ rw h (taken (chars (bytes key)) other w entry.0 entry.1 (lookup (bytes_eq other) (by_id bytes show entries)) (sym (asked bytes text (bytes key) (text key) entry.0) ∙ h))
    | inr h ↦
        rw h (ap (cond (bytes_eq other (chars (bytes entry.0))) (Some (show entry.1))) (inserted entries key w other)
        ∙ passed (chars (bytes key)) other w entry.0 entry.1 (lookup (bytes_eq other) (by_id bytes show entries)) (sym (asked bytes text (bytes key) (text key) entry.0) ∙ h))
  ]
