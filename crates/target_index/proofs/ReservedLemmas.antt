-- Changes that were reserved.
use Rattle.std.proofs.Common.{◌≡◌, ◌<◌, ◌≤◌, ◌+◌, ◌∙◌, ℕ, cond, List, [], ◌∷◌, ◌++◌, Some, count_by, drop, get_or, length, slice_get, suc, ap, ap₂, append-nil, refl, subst, sym, inl, inr, add-one, drop-cons, arith}
use Rattle.std.specs.Option.{option_to_list}
use Rattle.std.specs.Str.{bytes_eq}
use Rattle.std.proofs.lemmas.Bool.{cases_Bool}
use Rattle.std.proofs.lemmas.Grind.{flat_map-append}
use Rattle.std.proofs.lemmas.List.Sums.{sum_by-append, sum_by-cons}
use Rattle.std.proofs.lemmas.Slice.Eq.{bytes_eq-Decides}
use Rattle.target_index.specs.declared.change.IndexChange.{IndexChange}
use Rattle.target_index.specs.declared.change.Relation.{Relation}
use Rattle.target_index.specs.declared.change.Relation.TheVariants.{Holder, Reference}
use Rattle.target_index.specs.declared.index.Index.{Index}
use Rattle.target_index.specs.Changes.{AreReserved, AddsNoHolders, AddsNoReferences, HasRoomFor, added_id, added_ids}
use Rattle.target_index.specs.Counts.{count_of}
use Rattle.target_index.specs.Pairs.{Pairs, room_of}

-- how often an id comes among others and one more
often : (other id : List ℕ) (ids : List (List ℕ)) → count_by (bytes_eq other) (id ∷ ids) ≡ cond (bytes_eq other id) 1 0 + count_by (bytes_eq other) ids
often other id ids = sum_by-cons (λ x. cond (bytes_eq other x) 1 0) id ids

pub room_first : (pairs : Pairs) (id : List ℕ) (ids : List (List ℕ)) → HasRoomFor pairs (id ∷ ids) → 0 < room_of pairs id
room_first pairs id ids h =
    let once : ◌≡◌ {A = ℕ} (cond (bytes_eq id id) 1 0) 1 = ap (λ b. cond b 1 0) ((bytes_eq-Decides id id).1 refl) in
    omega (arith, h id, often id id ids, once)

module _ (old new : Pairs) (ids : List (List ℕ)) where
  pub room_after_insert : (id : List ℕ) → ((other : List ℕ) → room_of old other ≤ room_of new other + cond (bytes_eq other id) 1 0) → HasRoomFor old (id ∷ ids) → HasRoomFor new ids
  room_after_insert id falls h other = omega (arith, falls other, h other, often other id ids)

  pub room_after : ((other : List ℕ) → room_of old other ≤ room_of new other) → HasRoomFor old ids → HasRoomFor new ids
  room_after rises h other = omega (arith, rises other, h other)

-- room for some ids is room for the first of them
room_of_front : (pairs : Pairs) (front rest : List (List ℕ)) → HasRoomFor pairs (front ++ rest) → HasRoomFor pairs front
room_of_front pairs front rest h id = omega (arith, h id, sum_by-append (λ x. cond (bytes_eq id x) 1 0) front rest)

front_room : (relation : Relation) (pairs : Pairs) (front rest : List IndexChange) → HasRoomFor pairs (added_ids relation (front ++ rest)) → HasRoomFor pairs (added_ids relation front)
front_room relation pairs front rest h =
    room_of_front pairs (added_ids relation front) (added_ids relation rest) (subst (HasRoomFor pairs) (flat_map-append (λ change. option_to_list (added_id relation change)) front rest) h)

-- what is reserved with other changes behind it is reserved
pub front_reserved : (index : Index) (front rest : List IndexChange) → AreReserved index (front ++ rest) → AreReserved index front
front_reserved index front rest h = record {
  holders = front_room Holder index.holders front rest h.holders;
  references = front_room Reference index.references front rest h.references;
}

-- Changes of the one relation, with others behind them.

added_both : (relation : Relation) (some more : List IndexChange) → added_ids relation (some ++ more) ≡ added_ids relation some ++ added_ids relation more
added_both relation some more = flat_map-append (λ change. option_to_list (added_id relation change)) some more

module _ (some more : List IndexChange) where
  pub no_holders_both : AddsNoHolders some → AddsNoHolders more → AddsNoHolders (some ++ more)
  no_holders_both one other = added_both Holder some more ∙ ap₂ (λ (ids others : List (List ℕ)). ids ++ others) one other

  pub no_references_both : AddsNoReferences some → AddsNoReferences more → AddsNoReferences (some ++ more)
  no_references_both one other = added_both Reference some more ∙ ap₂ (λ (ids others : List (List ℕ)). ids ++ others) one other

  -- changes of references and changes of holders need each their own
  pub both_reserved : (index : Index) → AddsNoHolders some → AddsNoReferences more → AreReserved index some → AreReserved index more → AreReserved index (some ++ more)
  both_reserved index no_holders no_references one other = record {
    holders = subst (HasRoomFor index.holders) (sym (added_both Holder some more ∙ ap (λ (ids : List (List ℕ)). ids ++ added_ids Holder more) no_holders)) other.holders;
    references = subst (HasRoomFor index.references)
        (sym (added_both Reference some more ∙ ap (λ (ids : List (List ℕ)). added_ids Reference some ++ ids) no_references ∙ append-nil (added_ids Reference some)))
        one.references;
  }

-- there is room for ids as often as they are counted
pub room_for_counts : (counts : List (List ℕ × ℕ)) (pairs : Pairs) → ((place : ℕ) (counted : List ℕ × ℕ) → place < length counts → slice_get counts place ≡ Some counted → counted.1 ≤ room_of pairs counted.0)
    → (id : List ℕ) → count_of counts id ≤ room_of pairs id
room_for_counts [] pairs h id = omega arith
room_for_counts (counted ∷ counts) pairs h id = elim (cases_Bool (bytes_eq id counted.0)) [
  | inl e ↦
      rw e (subst (λ name. counted.1 ≤ room_of pairs name) (sym ((bytes_eq-Decides id counted.0).0 e)) (h 0 counted (omega arith) refl))
  | inr e ↦ rw e (room_for_counts counts pairs (λ place other below is. h (suc place) other (omega arith) is) id)
]

pub next_change : (changes : List IndexChange) (at : ℕ) (change : IndexChange) → at < length changes → change ≡ get_or changes at change → drop at changes ≡ change ∷ drop (at + 1) changes
next_change changes at change below is =
    drop-cons changes at change below ∙ ap (λ first. first ∷ drop (suc at) changes) (sym is) ∙ ap (λ next. change ∷ drop next changes) (sym (add-one at))
