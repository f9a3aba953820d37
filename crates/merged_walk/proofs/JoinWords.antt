-- A merge in which one tree goes and one comes, and each of the two for itself. Throughout, n is a node, c what is
-- under it, r what is after it, and m a merge.
use Rattle.std.proofs.Common.{◌≡◌, ◌<◌, ℕ, zero, suc, Bool, true, false, refl, ap, inl, inr, arith}
use Rattle.std.proofs.lemmas.Bool.{cases_Bool}
use Rattle.forest.specs.Forest.{Forest, Tree}
use Rattle.forest.specs.Keys.{Keyed}
use Rattle.forest.specs.Spots.{first_key}
use Rattle.merged_walk.specs.Merges.{Merge, End, Kept, Turned, Gone, Come, all_kept, old_of, new_of, has_place}
use Rattle.merged_walk.specs.Counts.{weigh_places}
use Rattle.merged_walk.proofs.MergeLaws.{has_place-all_kept, old-all_kept}
use Rattle.merged_walk.proofs.CountLaws.{weigh-all_kept, weigh-none}

-- by how many trees go and come in a first tree: what holds of those under it, or of those after it
abbrev pub by_counts : ℕ → ℕ → Bool → Bool → Bool
by_counts zero zero inside beside = beside
by_counts zero (suc comes) inside beside = false
by_counts (suc goes) zero inside beside = true
by_counts (suc goes) (suc comes) inside beside = inside

module _ {L : Type 0} where
  abbrev pub goes_count : Merge L → ℕ
  goes_count m = weigh_places (λ _. 1) (λ _. 0) m

  abbrev pub comes_count : Merge L → ℕ
  comes_count m = weigh_places (λ _. 0) (λ _. 1) m

  -- the tree that goes stands before the one that comes, in tree order
  abbrev pub gone_first : Merge L → Bool
  gone_first End = true
  gone_first (Kept n c r) = by_counts (goes_count c) (comes_count c) (gone_first c) (gone_first r)
  gone_first (Turned was n c r) = by_counts (goes_count c) (comes_count c) (gone_first c) (gone_first r)
  gone_first (Gone n c r) = true
  gone_first (Come n c r) = false

  -- nothing comes yet
  abbrev pub without_come : Merge L → Merge L
  without_come End = End
  without_come (Kept n c r) = Kept n (without_come c) (without_come r)
  without_come (Turned was n c r) = Turned was n (without_come c) (without_come r)
  without_come (Gone n c r) = Gone n c (without_come r)
  without_come (Come n c r) = without_come r

  -- nothing is gone yet
  abbrev pub with_gone : Merge L → Merge L
  with_gone End = End
  with_gone (Kept n c r) = Kept n (with_gone c) (with_gone r)
  with_gone (Turned was n c r) = Turned was n (with_gone c) (with_gone r)
  with_gone (Gone n c r) = Kept n (all_kept c) (with_gone r)
  with_gone (Come n c r) = Come n c (with_gone r)

  -- behind trees that go a level begins with one that comes
  abbrev pub begins_with_come : Merge L → Bool
  begins_with_come End = false
  begins_with_come (Kept n c r) = false
  begins_with_come (Turned was n c r) = false
  begins_with_come (Gone n c r) = begins_with_come r
  begins_with_come (Come n c r) = true

  -- trees go and come, no tree comes right behind one that goes, and no node is turned
  abbrev pub InOrder : Merge L → Type 0
  InOrder End = Unit {0}
  InOrder (Kept n c r) = InOrder c × InOrder r
  InOrder (Turned was n c r) = ⊥
  InOrder (Gone n c r) = (begins_with_come r ≡ false) × InOrder r
  InOrder (Come n c r) = InOrder r

  -- where nothing comes, all is as without what comes; and so of what goes
  pub without-none : (m : Merge L) → comes_count m ≡ 0 → without_come m ≡ m
  without-none End h = refl
  without-none (Kept n c r) h =
      let below = without-none c (omega (arith, h)) in let beside = without-none r (omega (arith, h)) in λ x. Kept n (below x) (beside x)
  without-none (Turned was n c r) h =
      let below = without-none c (omega (arith, h)) in let beside = without-none r (omega (arith, h)) in λ x. Turned was n (below x) (beside x)
  without-none (Gone n c r) h = ap (Gone n c) (without-none r (omega (arith, h)))
  without-none (Come n c r) h = absurd (omega (arith, h))

  pub with-none : (m : Merge L) → goes_count m ≡ 0 → with_gone m ≡ m
  with-none End h = refl
  with-none (Kept n c r) h =
      let below = with-none c (omega (arith, h)) in let beside = with-none r (omega (arith, h)) in λ x. Kept n (below x) (beside x)
  with-none (Turned was n c r) h =
      let below = with-none c (omega (arith, h)) in let beside = with-none r (omega (arith, h)) in λ x. Turned was n (below x) (beside x)
  with-none (Gone n c r) h = absurd (omega (arith, h))
  with-none (Come n c r) h = ap (Come n c) (with-none r (omega (arith, h)))

  -- without what comes there is no place where nothing goes, and the other way round
  pub no-place_without : (m : Merge L) → InOrder m → goes_count m ≡ 0 → has_place (without_come m) ≡ false
  no-place_without End f h = refl
  no-place_without (Kept n c r) f h =
      let below : has_place (without_come c) ≡ false = no-place_without c f.0 (omega (arith, h)) in rw below (no-place_without r f.1 (omega (arith, h)))
  no-place_without (Turned was n c r) f h = absurd f
  no-place_without (Gone n c r) f h = absurd (omega (arith, h))
  no-place_without (Come n c r) f h = no-place_without r f (omega (arith, h))

  pub no-place_with : (m : Merge L) → InOrder m → comes_count m ≡ 0 → has_place (with_gone m) ≡ false
  no-place_with End f h = refl
  no-place_with (Kept n c r) f h =
      let below : has_place (with_gone c) ≡ false = no-place_with c f.0 (omega (arith, h)) in rw below (no-place_with r f.1 (omega (arith, h)))
  no-place_with (Turned was n c r) f h = absurd f
  no-place_with (Gone n c r) f h = rw (has_place-all_kept c) (no-place_with r f.1 (omega (arith, h)))
  no-place_with (Come n c r) f h = absurd (omega (arith, h))

  pub no-place : (m : Merge L) → InOrder m → goes_count m ≡ 0 → comes_count m ≡ 0 → has_place m ≡ false
  no-place m f g k = let same = without-none m k in rw same at (no-place_without m f g)

  -- what weighs something is a place
  pub place-weighed : (gone come : Forest (Keyed L) → ℕ) (m : Merge L) → 0 < weigh_places gone come m → has_place m ≡ true
  place-weighed gone come m some = elim (cases_Bool (has_place m)) [
    | inl there ↦ there
    | inr nowhere ↦ absurd (omega (arith, some, weigh-none gone come m nowhere))
  ]

  pub goes-without : (m : Merge L) → goes_count (without_come m) ≡ goes_count m
  goes-without End = refl
  goes-without (Kept n c r) = omega (arith, goes-without c, goes-without r)
  goes-without (Turned was n c r) = omega (arith, goes-without c, goes-without r)
  goes-without (Gone n c r) = omega (arith, goes-without r)
  goes-without (Come n c r) = omega (arith, goes-without r)

  pub comes-with : (m : Merge L) → comes_count (with_gone m) ≡ comes_count m
  comes-with End = refl
  comes-with (Kept n c r) = omega (arith, comes-with c, comes-with r)
  comes-with (Turned was n c r) = omega (arith, comes-with c, comes-with r)
  comes-with (Gone n c r) = omega (arith, weigh-all_kept (λ _. 0) (λ _. 1) c, comes-with r)
  comes-with (Come n c r) = omega (arith, comes-with r)

  pub old-without : (m : Merge L) → old_of (without_come m) ≡ old_of m
  old-without End = refl
  old-without (Kept n c r) = let below = old-without c in let beside = old-without r in λ x. Tree n (below x) (beside x)
  old-without (Turned was n c r) = let below = old-without c in let beside = old-without r in λ x. Tree was (below x) (beside x)
  old-without (Gone n c r) = ap (Tree n c) (old-without r)
  old-without (Come n c r) = old-without r

  pub old-with : (m : Merge L) → old_of (with_gone m) ≡ old_of m
  old-with End = refl
  old-with (Kept n c r) = let below = old-with c in let beside = old-with r in λ x. Tree n (below x) (beside x)
  old-with (Turned was n c r) = let below = old-with c in let beside = old-with r in λ x. Tree was (below x) (beside x)
  old-with (Gone n c r) = let below = old-all_kept c in let beside = old-with r in λ x. Tree n (below x) (beside x)
  old-with (Come n c r) = old-with r

  pub first-without : (m : Merge L) → begins_with_come m ≡ false → goes_count m ≡ 0 → first_key (new_of (without_come m)) ≡ first_key (new_of m)
  first-without End h g = refl
  first-without (Kept n c r) h g = refl
  first-without (Turned was n c r) h g = refl
  first-without (Gone n c r) h g = absurd (omega (arith, g))
  first-without (Come n c r) h g = absurd (cc)
