-- Values in a map under the bytes of names, after one was written.
use Rattle.std.proofs.Common.{◌≡◌, ◌∙◌, ◌&&◌, ◌||◌, ℕ, nat_eq, true, false, cond, List, [], ◌∷◌, ◌++◌, Option, Some, None, is_some, unwrap_or, refl, sym, ap, inl, inr, true≢false}
use Rattle.std.specs.List.{list_any}
use Rattle.std.specs.Map.{lookup, set_value}
use Rattle.std.specs.Str.{bytes_eq}
use Rattle.std.proofs.lemmas.Bool.{cases_Bool}
use Rattle.std.proofs.lemmas.Slice.Eq.{bytes_eq-Decides}
use Rattle.indexmap.specs.IndexMap.{insert_entry}
use Rattle.mini_cascade.proofs.Members.{any_pushed, or_false}

-- equal names answer to one test
one_test : (other one two : List ℕ) → bytes_eq one two ≡ true → bytes_eq other one ≡ bytes_eq other two
one_test other one two e = ap (bytes_eq other) ((bytes_eq-Decides one two).0 e)

-- no name is equal to two that differ
not_both : (other one two : List ℕ) → bytes_eq one two ≡ false → bytes_eq other two ≡ true → bytes_eq other one ≡ false
not_both other one two apart same = elim (cases_Bool (bytes_eq other one)) [
  | inl e ↦
      let first : other ≡ one = (bytes_eq-Decides other one).0 e in
      let second : other ≡ two = (bytes_eq-Decides other two).0 same in
      absurd (true≢false (sym ((bytes_eq-Decides one two).1 (sym first ∙ second)) ∙ apart))
  | inr e ↦ e
]

module _ {K V : Type 0} (bytes : K → List ℕ) where
  abbrev pub value_at : List (K × V) → List ℕ → Option V
  value_at entries name = lookup (λ key. bytes_eq name (bytes key)) entries

  -- what an entry that takes the value has, and what one that stays has
  taken : (name other : List ℕ) (w old : V) (key : K) (rest : Option V) → bytes_eq name (bytes key) ≡ true
      → cond (bytes_eq other (bytes key)) (Some w) rest ≡ cond (bytes_eq other name) (Some w) (cond (bytes_eq other (bytes key)) (Some old) rest)
  taken name other w old key rest e = elim (cases_Bool (bytes_eq other (bytes key))) [
    | inl h ↦ rw (one_test other name (bytes key) e, h) refl
    | inr h ↦ rw (one_test other name (bytes key) e, h) refl
  ]

  passed : (name other : List ℕ) (w old : V) (key : K) (rest : Option V) → bytes_eq name (bytes key) ≡ false
      → cond (bytes_eq other (bytes key)) (Some old) (cond (bytes_eq other name) (Some w) rest) ≡ cond (bytes_eq other name) (Some w) (cond (bytes_eq other (bytes key)) (Some old) rest)
  passed name other w old key rest e = elim (cases_Bool (bytes_eq other (bytes key))) [
    | inl h ↦ rw (h, not_both other name (bytes key) e h) refl
    | inr h ↦ rw h refl
  ]

  pub written : (name : List ℕ) (entries : List (K × V)) (w : V) → is_some (value_at entries name) ≡ true → (other : List ℕ)
      → value_at (set_value (λ key. bytes_eq name (bytes key)) entries w) other ≡ cond (bytes_eq other name) (Some w) (value_at entries other)
  written name [] w there other = absurd (true≢false (sym there))
  written name (entry ∷ entries) w there other = elim (cases_Bool (bytes_eq name (bytes entry.0))) [
    | inl h ↦ rw h (taken name other w entry.1 entry.0 (value_at entries other) h)
    | inr h ↦
        let later : is_some (value_at entries name) ≡ true = sym (ap (λ b. is_some (cond b (Some entry.1) (value_at entries name))) h) ∙ there in
        rw h (ap (cond (bytes_eq other (bytes entry.0)) (Some entry.1)) (written name entries w later other) ∙ passed name other w entry.1 entry.0 (value_at entries other) h)
  ]

  pub inserted : (entries : List (K × V)) (key : K) (w : V) (other : List ℕ)
      → value_at (insert_entry (λ a b. bytes_eq (bytes a) (bytes b)) entries key w) other ≡ cond (bytes_eq other (bytes key)) (Some w) (value_at entries other)
  inserted [] key w other = refl
  inserted (entry ∷ entries) key w other = elim (cases_Bool (bytes_eq (bytes key) (bytes entry.0))) [
    | inl h ↦ rw h (taken (bytes key) other w entry.1 entry.0 (value_at entries other) h)
    | inr h ↦ rw h (ap (cond (bytes_eq other (bytes entry.0)) (Some entry.1)) (inserted entries key w other) ∙ passed (bytes key) other w entry.1 entry.0 (value_at entries other) h)
  ]

-- where a name has one place more, that is filed and no other
pub filed_more : (name : List ℕ) (had now : List ℕ) (place : ℕ) (before after : List ℕ → Option (List ℕ)) → unwrap_or (before name) [] ≡ had → now ≡ had ++ place ∷ []
    → ((other : List ℕ) → after other ≡ cond (bytes_eq other name) (Some now) (before other)) → (other : List ℕ) (one : ℕ)
    → list_any (nat_eq one) (unwrap_or (after other) []) ≡ (list_any (nat_eq one) (unwrap_or (before other) []) || (bytes_eq other name && nat_eq one place))
filed_more name had now place before after was is puts other one = elim (cases_Bool (bytes_eq other name)) [
  | inl h ↦
      let same : unwrap_or (before other) [] ≡ had = ap (λ o. unwrap_or (before o) []) ((bytes_eq-Decides other name).0 h) ∙ was in
      rw (puts other, h, same, is) (any_pushed (nat_eq one) had place)
  | inr h ↦ rw (puts other, h) (sym (or_false (list_any (nat_eq one) (unwrap_or (before other) []))))
]

module _ {K : Type 0} (bytes : K → List ℕ) (entries after : List (K × List ℕ)) (place : ℕ) (now : List ℕ) where
  abbrev Files : List ℕ → Type 0
  Files name = (other : List ℕ) (one : ℕ)
      → list_any (nat_eq one) (unwrap_or (value_at bytes after other) []) ≡ (list_any (nat_eq one) (unwrap_or (value_at bytes entries other) []) || (bytes_eq other name && nat_eq one place))

  -- at a name that has places
  pub filed_there : (name had : List ℕ) → Some had ≡ value_at bytes entries name → after ≡ set_value (λ key. bytes_eq name (bytes key)) entries now → now ≡ had ++ place ∷ [] → Files name
  filed_there name had found wrote is =
      filed_more name had now place (value_at bytes entries) (value_at bytes after) (ap (λ o. unwrap_or o []) (sym found)) is
      (λ other. ap (λ es. value_at bytes es other) wrote ∙ written bytes name entries now (ap is_some (sym found)) other)

  -- at one that has none
  pub filed_first : (key : K) → None ≡ value_at bytes entries (bytes key) → after ≡ insert_entry (λ a b. bytes_eq (bytes a) (bytes b)) entries key now → now ≡ place ∷ [] → Files (bytes key)
  filed_first key missing wrote is =
      filed_more (bytes key) [] now place (value_at bytes entries) (value_at bytes after) (ap (λ o. unwrap_or o []) (sym missing)) is
      (λ other. ap (λ es. value_at bytes es other) wrote ∙ inserted bytes entries key now other)
