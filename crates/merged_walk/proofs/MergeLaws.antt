-- Merges in which all comes or all is kept, and the level from its first place on.
-- Throughout, n is a node, c what is under it, r what is after it, g trees, and m a merge.
use Rattle.std.proofs.Common.{◌≡◌, ◌+◌, ◌≤◌, Bool, true, false, cond, refl, sym, ap, ◌∙◌, arith}
use Rattle.std.proofs.lemmas.Bool.{or_parts}
use Rattle.forest.specs.Forest.{Forest, Empty, Tree, size}
use Rattle.forest.specs.Keys.{Keyed, HasDistinctKeys}
use Rattle.forest.proofs.SpotLaws.{distinct-parts}
use Rattle.merged_walk.specs.Merges.{Merge, End, Kept, Turned, Gone, Come, old_of, new_of, all_come, all_kept, has_place, from_place}

module _ {L : Type 0} where
  pub new-all_come : (g : Forest (Keyed L)) → new_of (all_come g) ≡ g
  new-all_come Empty = refl
  new-all_come (Tree n c r) = ap (Tree n c) (new-all_come r)

  pub old-all_come : (g : Forest (Keyed L)) → old_of (all_come g) ≡ Empty
  old-all_come Empty = refl
  old-all_come (Tree n c r) = old-all_come r

  -- where all comes, all comes of the new forest
  pub all_come-new : (g : Forest (Keyed L)) → all_come g ≡ all_come (new_of (all_come g))
  all_come-new g = ap all_come (sym (new-all_come g))

  pub old-all_kept : (g : Forest (Keyed L)) → old_of (all_kept g) ≡ g
  old-all_kept Empty = refl
  old-all_kept (Tree n c r) = let below = old-all_kept c in let beside = old-all_kept r in λ x. Tree n (below x) (beside x)

  pub new-all_kept : (g : Forest (Keyed L)) → new_of (all_kept g) ≡ g
  new-all_kept Empty = refl
  new-all_kept (Tree n c r) = let below = new-all_kept c in let beside = new-all_kept r in λ x. Tree n (below x) (beside x)

  pub has_place-all_kept : (g : Forest (Keyed L)) → has_place (all_kept g) ≡ false
  has_place-all_kept Empty = refl
  has_place-all_kept (Tree n c r) = rw (has_place-all_kept c) (has_place-all_kept r)

  -- without a place the two forests are one
  pub old-new : (m : Merge L) → has_place m ≡ false → old_of m ≡ new_of m
  old-new End h = refl
  old-new (Kept n c r) h =
      let parts = or_parts (has_place c) (has_place r) h in
      let below = old-new c parts.0 in let beside = old-new r parts.1 in λ x. Tree n (below x) (beside x)
  old-new (Turned was n c r) h = absurd (cc)
  old-new (Gone n c r) h = absurd (cc)
  old-new (Come n c r) h = absurd (cc)

  -- The level from its first place on.

  pub size-from_place : (m : Merge L) → size (new_of (from_place m)) ≤ size (new_of m)
  size-from_place End = omega arith
  size-from_place (Kept n c r) =
      elim (has_place c) as (λ b. size (new_of (cond b (Kept n c r) (from_place r))) ≤ 1 + (size (new_of c) + size (new_of r))) [
        | true ↦ omega arith
        | false ↦ omega (arith, size-from_place r)
      ]
  size-from_place (Turned was n c r) = omega arith
  size-from_place (Gone n c r) = omega arith
  size-from_place (Come n c r) = omega arith

  -- a first tree without a place is left out
  pub size-skipped : (n : Keyed L) (c r : Merge L) → has_place c ≡ false → size (new_of (from_place (Kept n c r))) ≤ size (new_of r)
  size-skipped n c r h = rw h (size-from_place r)

  -- so the level doesn't begin with a place there
  pub not_at_place : (n : Keyed L) (c r : Merge L) → has_place c ≡ false → from_place (Kept n c r) ≡ Kept n c r → ⊥
  not_at_place n c r h is =
      let same : size (new_of (from_place (Kept n c r))) ≡ size (new_of (Kept n c r)) = ap (λ m. size (new_of m)) is in
      absurd (omega (arith, same, size-skipped n c r h))

  again-kept : (n : Keyed L) (c r : Merge L) (b : Bool) → has_place c ≡ b → from_place (from_place r) ≡ from_place r → from_place (from_place (Kept n c r)) ≡ from_place (Kept n c r)
  again-kept n c r true h rest = let to : from_place (Kept n c r) ≡ Kept n c r = rw h refl in ap from_place to
  again-kept n c r false h rest = let to : from_place (Kept n c r) ≡ from_place r = rw h refl in ap from_place to ∙ rest ∙ sym to

  pub from_place-again : (m : Merge L) → from_place (from_place m) ≡ from_place m
  from_place-again End = refl
  from_place-again (Kept n c r) = again-kept n c r (has_place c) refl (from_place-again r)
  from_place-again (Turned was n c r) = refl
  from_place-again (Gone n c r) = refl
  from_place-again (Come n c r) = refl

  -- where all comes, the level begins with a place
  pub from_place-fresh : (m : Merge L) → m ≡ all_come (new_of m) → from_place m ≡ m
  from_place-fresh End h = refl
  from_place-fresh (Kept n c r) h = ap from_place h ∙ sym h
  from_place-fresh (Turned was n c r) h = refl
  from_place-fresh (Gone n c r) h = refl
  from_place-fresh (Come n c r) h = refl

  pub distinct-from_place : (m : Merge L) → HasDistinctKeys (new_of m) → HasDistinctKeys (new_of (from_place m))
  distinct-from_place End h = h
  distinct-from_place (Kept n c r) h =
      elim (has_place c) as (λ b. HasDistinctKeys (new_of (cond b (Kept n c r) (from_place r)))) [
        | true ↦ h
        | false ↦ distinct-from_place r (distinct-parts n (new_of c) (new_of r) h).1
      ]
  distinct-from_place (Turned was n c r) h = h
  distinct-from_place (Gone n c r) h = h
  distinct-from_place (Come n c r) h = h
