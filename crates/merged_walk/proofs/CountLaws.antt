-- How much is evaluated: nothing where nothing is other than before, and else what is led to, comes, or is handed
-- something else. Throughout, e is an evaluator, i what a level is handed, j what it was handed, n a node, c what is
-- under it, r what is after it, g trees, and m a merge.
use Rattle.std.proofs.Common.{◌≡◌, ◌+◌, ◌≤◌, ◌||◌, ℕ, Bool, true, false, cond, refl, ap, arith}
use Rattle.std.specs.Prelude.{not}
use Rattle.std.proofs.lemmas.Bool.{or_parts}
use Rattle.forest.specs.Forest.{Forest, Empty, Tree}
use Rattle.forest.specs.Keys.{Keyed}
use Rattle.merged_walk.specs.Merges.{Merge, End, Kept, Turned, Gone, Come, old_of, new_of, all_come, all_kept, has_place}
use Rattle.merged_walk.specs.Evaluators.{Evaluator, IsSound, past_all, count_of_elements}
use Rattle.merged_walk.specs.Counts.{weigh_places, led_count, come_count, other_count, anew_count}
use Rattle.merged_walk.proofs.MergeLaws.{has_place-all_kept, old-new}

module _ {L : Type 0} where
  -- without a place nothing goes or comes
  pub weigh-none : (gone come : Forest (Keyed L) → ℕ) (m : Merge L) → has_place m ≡ false → weigh_places gone come m ≡ 0
  weigh-none gone come End h = refl
  weigh-none gone come (Kept n c r) h =
      let parts = or_parts (has_place c) (has_place r) h in omega (arith, weigh-none gone come c parts.0, weigh-none gone come r parts.1)
  weigh-none gone come (Turned was n c r) h = absurd (cc)
  weigh-none gone come (Gone n c r) h = absurd (cc)
  weigh-none gone come (Come n c r) h = absurd (cc)

  pub weigh-all_kept : (gone come : Forest (Keyed L) → ℕ) (g : Forest (Keyed L)) → weigh_places gone come (all_kept g) ≡ 0
  weigh-all_kept gone come g = weigh-none gone come (all_kept g) (has_place-all_kept g)

  -- where all comes, all elements do
  pub come-all_come : (is_element : L → Bool) (g : Forest (Keyed L)) → come_count is_element (all_come g) ≡ count_of_elements is_element g
  come-all_come is_element Empty = refl
  come-all_come is_element (Tree n c r) = omega (arith, come-all_come is_element r)

module _ {L K H : Type 0} (e : Evaluator L K H) where
  pub anew-all_come : (g : Forest (Keyed L)) (i j : H) → anew_count e i j (all_come g) ≡ 0
  anew-all_come Empty i j = refl
  anew-all_come (Tree n c r) i j = anew-all_come r (e.past n i (past_all e (e.within n i) c)) j

  zero-either : (b : Bool) → cond {A = ℕ} b 0 0 ≡ 0
  zero-either true = refl
  zero-either false = refl

  -- kept trees that are handed the same are not evaluated
  pub anew-none : IsSound e → (m : Merge L) (i : H) → has_place m ≡ false → anew_count e i i m ≡ 0
  anew-none s End i h = refl
  anew-none s (Kept n c r) i h =
      let parts = or_parts (has_place c) (has_place r) h in
      let same : past_all e (e.within n i) (old_of c) ≡ past_all e (e.within n i) (new_of c) = ap (past_all e (e.within n i)) (old-new c parts.0) in
      rw (parts.0, s.itself i, same, anew-none s c (e.within n i) parts.0, anew-none s r (e.past n i (past_all e (e.within n i) (new_of c))) parts.1)
      (omega (arith, zero-either (e.is_element n.label)))
  anew-none s (Turned was n c r) i h = absurd (cc)
  anew-none s (Gone n c r) i h = absurd (cc)
  anew-none s (Come n c r) i h = absurd (cc)

  anew-one : (element place same : Bool)
      → cond {A = ℕ} element (cond (place || not same) 1 0) 0 ≤ cond {A = ℕ} place 1 0 + cond {A = ℕ} element (cond same 0 1) 0
  anew-one true true same = omega arith
  anew-one true false true = omega arith
  anew-one true false false = omega arith
  anew-one false place same = omega arith

  -- an element that stays is evaluated where it is led to or is handed something else
  pub anew-within : (m : Merge L) (i j : H) → anew_count e i j m ≤ led_count m + other_count e i j m
  anew-within End i j = omega arith
  anew-within (Kept n c r) i j =
      let x = past_all e (e.within n i) (new_of c) in
      let y = past_all e (e.within n j) (old_of c) in
      omega (
        arith,
        anew-one (e.is_element n.label) (has_place c) (e.is_same i j),
        anew-within c (e.within n i) (e.within n j),
        anew-within r (e.past n i x) (e.past n j y),
      )
  anew-within (Turned was n c r) i j =
      let x = past_all e (e.within n i) (new_of c) in
      let y = past_all e (e.within was j) (old_of c) in
      omega (arith, anew-within c (e.within n i) (e.within was j), anew-within r (e.past n i x) (e.past was j y))
  anew-within (Gone n c r) i j = omega (arith, anew-within r i (e.past n j (past_all e (e.within n j) c)))
  anew-within (Come n c r) i j = omega (arith, anew-within r (e.past n i (past_all e (e.within n i) c)) j)
