-- Pairs of which those of one id changed.
use Rattle.std.proofs.Common.{◌≡◌, ◌≤◌, ◌+◌, ◌∙◌, ℕ, nat_eq, Bool, true, false, cond, List, [], Some, refl, sym, ap, subst, inl, inr, arith}
use Rattle.std.specs.List.{list_any}
use Rattle.std.specs.Map.{lookup}
use Rattle.std.specs.Str.{bytes_eq}
use Rattle.std.proofs.lemmas.Bool.{cases_Bool}
use Rattle.std.proofs.lemmas.Slice.Eq.{bytes_eq-Decides}
use Rattle.target_index.specs.Pairs.{Paired, Pairs, is_pair, keys_of, room_of}
use Rattle.target_index.specs.Changes.{is_that}

-- an id has this, and every other has what it had
pub record Puts (old new : Pairs) (name : List ℕ) (put : Paired) : Type 0 where
  pub at : (other : List ℕ) → lookup (bytes_eq other) new ≡ cond (bytes_eq other name) (Some put) (lookup (bytes_eq other) old)

module _ (old new : Pairs) (name : List ℕ) (put : Paired) (puts : Puts old new name put) where
  keys_put : (other : List ℕ) → keys_of new other ≡ cond (bytes_eq other name) put.keys (keys_of old other)
  keys_put other = elim (cases_Bool (bytes_eq other name)) [
    | inl h ↦ rw (puts.at other, h) refl
    | inr h ↦ rw (puts.at other, h) refl
  ]

  pub room_put : (other : List ℕ) → room_of new other ≡ cond (bytes_eq other name) put.room (room_of old other)
  room_put other = elim (cases_Bool (bytes_eq other name)) [
    | inl h ↦ rw (puts.at other, h) refl
    | inr h ↦ rw (puts.at other, h) refl
  ]

  same_id : (other : List ℕ) → bytes_eq other name ≡ true → other ≡ name
  same_id other h = (bytes_eq-Decides other name).0 h

  pub keys_kept : keys_of old name ≡ put.keys → (other : List ℕ) → keys_of new other ≡ keys_of old other
  keys_kept e other = elim (cases_Bool (bytes_eq other name)) [
    | inl h ↦ rw (keys_put other, h) (sym e ∙ sym (ap (keys_of old) (same_id other h)))
    | inr h ↦ rw (keys_put other, h) refl
  ]

  pub room_kept : room_of old name ≤ put.room → (other : List ℕ) → room_of old other ≤ room_of new other
  room_kept le other = elim (cases_Bool (bytes_eq other name)) [
    | inl h ↦ rw (room_put other, h) (subst (λ id. room_of old id ≤ put.room) (sym (same_id other h)) le)
    | inr h ↦ rw (room_put other, h) (omega arith)
  ]

  pub room_used : room_of old name ≤ put.room + 1 → (other : List ℕ) → room_of old other ≤ room_of new other + cond (bytes_eq other name) 1 0
  room_used le other = elim (cases_Bool (bytes_eq other name)) [
    | inl h ↦ rw (room_put other, h) (subst (λ id. room_of old id ≤ put.room + 1) (sym (same_id other h)) le)
    | inr h ↦ rw (room_put other, h) (omega arith)
  ]

  pub pair_put : (key : ℕ) (there : Bool) → ((element : ℕ) → list_any (nat_eq element) put.keys ≡ cond (nat_eq key element) there (is_pair old name element))
      → (other : List ℕ) (element : ℕ) → is_pair new other element ≡ cond (is_that name key other element) there (is_pair old other element)
  pair_put key there here other element = elim (cases_Bool (bytes_eq other name)) [
    | inl h ↦ rw (keys_put other, h) (here element ∙ ap (λ id. cond (nat_eq key element) there (is_pair old id element)) (sym (same_id other h)))
    | inr h ↦ rw (keys_put other, h) refl
  ]

-- to take a pair away from an id that has none changes nothing
pub never_paired : (pairs : Pairs) (name : List ℕ) → keys_of pairs name ≡ [] → (key : ℕ) (other : List ℕ) (element : ℕ)
    → is_pair pairs other element ≡ cond (is_that name key other element) false (is_pair pairs other element)
never_paired pairs name none key other element = elim (cases_Bool (bytes_eq other name)) [
  | inl h ↦
      let empty : is_pair pairs other element ≡ false = ap (list_any (nat_eq element)) (ap (keys_of pairs) ((bytes_eq-Decides other name).0 h) ∙ none) in
      rw (h, empty) (sym (cond_same (nat_eq key element)))
  | inr h ↦ rw h refl
]
  where
    cond_same : (b : Bool) → cond b false false ≡ false
    cond_same true = refl
    cond_same false = refl
