-- Where each place of a merge stands in a node that is reached, the stops are those of the nodes that are, told by the old
-- forest alone. Throughout, n is a node, c what is under it, r what is after it, g trees, and m a merge; z is a node that
-- comes with zs under it.
use Rattle.std.proofs.Common.{◌≡◌, ◌||◌, ◌⊎◌, ℕ, zero, suc, Bool, true, false, cond, List, [], ◌∷◌, ◌++◌, Option, Some, refl, sym, ap, ◌∙◌, inl, inr}
use Rattle.std.specs.List.{list_any}
use Rattle.forest.specs.Forest.{Forest, Empty, Tree}
use Rattle.forest.specs.Keys.{Keyed}
use Rattle.forest.specs.Paths.{trees_from}
use Rattle.merged_walk.specs.declared.stop.Stop.{Stop}
use Rattle.merged_walk.specs.declared.stop.Way.TheVariants.{Past, Inside, Anew}
use Rattle.merged_walk.specs.Merges.{Merge, End, Kept, Turned, Gone, Come, all_kept, has_place, new_of, old_of}
use Rattle.merged_walk.specs.Stops.{first_element, stops_of}
use Rattle.merged_walk.specs.Edits.{from_new, merged_at, merged_from, put_at, put_fragment}
use Rattle.merged_walk.specs.EditStops.{on_way}
use Rattle.merged_walk.proofs.MergeLaws.{old-all_kept}
use Rattle.styled_merge.specs.Reached.{reached}
use Rattle.styled_merge.proofs.ReachedLaws.{at_kept, old-reached}
use Rattle.styled_merge.proofs.ReachedLevels.{either}

module _ {L : Type 0} (is_reached : ℕ → Bool) where
  -- one of these nodes is reached
  abbrev pub has_reached : List (Keyed L) → Bool
  has_reached nodes = list_any (λ (n : Keyed L). is_reached n.key) nodes

  -- each place stands in a node that is kept and reached
  abbrev pub AreUnder : Merge L → Type 0
  AreUnder End = Unit {0}
  AreUnder (Kept n c r) = ((is_reached n.key ≡ true) ⊎ AreUnder c) × AreUnder r
  AreUnder (Turned was n c r) = ⊥
  AreUnder (Gone n c r) = ⊥
  AreUnder (Come n c r) = ⊥

  pub under-kept : (g : Forest (Keyed L)) → AreUnder (all_kept g)
  under-kept Empty = tt
  under-kept (Tree n c r) = (inr (under-kept c), under-kept r)

  -- Where a node above the place is reached, the merge at a path has it there.

  under-from : (change : Forest (Keyed L) → Merge L) (path : List ℕ) → ((g : Forest (Keyed L)) → has_reached (on_way path g) ≡ true → AreUnder (change g))
      → (i : ℕ) (g : Forest (Keyed L)) → has_reached (on_way path (trees_from i g)) ≡ true → AreUnder (merged_from change i g)
  under-from change path under zero g h = under g h
  under-from change path under (suc i) Empty h = tt
  under-from change path under (suc i) (Tree n c r) h = (inr (under-kept c), under-from change path under i r h)

  pub under-at : (change : Forest (Keyed L) → Merge L) (path : List ℕ) (g : Forest (Keyed L)) → has_reached (on_way path g) ≡ true → AreUnder (merged_at change path g)
  under-at change [] g h = absurd (cc h)
  under-at change (i ∷ path) Empty h = absurd (cc h)
  under-at change (i ∷ path) (Tree n c r) h = elim (either (is_reached n.key) (has_reached (on_way path (trees_from i c))) h) [
    | inl here ↦ (inl here, under-kept r)
    | inr below ↦ (inr (under-from (merged_at change path) path (under-at change path) i c below), under-kept r)
  ]

  -- And so has a tree that comes in such a node.
  module _ (z : Keyed L) (zs : Forest (Keyed L)) where
    under-new : (change : Merge L → Merge L) (path : List ℕ) → ((m : Merge L) → AreUnder m → has_reached (on_way path (new_of m)) ≡ true → AreUnder (change m))
        → (i : ℕ) (m : Merge L) → AreUnder m → has_reached (on_way path (trees_from i (new_of m))) ≡ true → AreUnder (from_new change i m)
    under-new change path under zero End a h = under End a h
    under-new change path under zero (Kept n c r) a h = under (Kept n c r) a h
    under-new change path under zero (Turned was n c r) a h = absurd a
    under-new change path under zero (Gone n c r) a h = absurd a
    under-new change path under zero (Come n c r) a h = absurd a
    under-new change path under (suc i) End a h = tt
    under-new change path under (suc i) (Kept n c r) a h = (a.0, under-new change path under i r a.1 h)
    under-new change path under (suc i) (Turned was n c r) a h = absurd a
    under-new change path under (suc i) (Gone n c r) a h = absurd a
    under-new change path under (suc i) (Come n c r) a h = absurd a

    only : (b : Bool) → (b || false) ≡ true → b ≡ true
    only true h = refl
    only false h = h

    pub under-put : (path : List ℕ) (index : ℕ) (m : Merge L) → AreUnder m → has_reached (on_way (path ++ index ∷ []) (new_of m)) ≡ true → AreUnder (put_at path index z zs m)
    under-put [] index End a h = tt
    under-put [] index (Kept n c r) a h = (inl (only (is_reached n.key) h), a.1)
    under-put [] index (Turned was n c r) a h = absurd a
    under-put [] index (Gone n c r) a h = absurd a
    under-put [] index (Come n c r) a h = absurd a
    under-put (i ∷ path) index End a h = tt
    under-put (i ∷ path) index (Kept n c r) a h = elim (either (is_reached n.key) (has_reached (on_way (path ++ index ∷ []) (trees_from i (new_of c)))) h) [
      | inl here ↦ (inl here, a.1)
      | inr below ↦ elim a.0 [
        | inl here ↦ (inl here, a.1)
        | inr inner ↦ (inr (under-new (put_at path index z zs) (path ++ index ∷ []) (under-put path index) i c inner below), a.1)
      ]
    ]
    under-put (i ∷ path) index (Turned was n c r) a h = absurd a
    under-put (i ∷ path) index (Gone n c r) a h = absurd a
    under-put (i ∷ path) index (Come n c r) a h = absurd a

  pub under-fragment : (path : List ℕ) (index : ℕ) (g : Forest (Keyed L)) (m : Merge L) → AreUnder m → has_reached (on_way (path ++ index ∷ []) (new_of m)) ≡ true
      → AreUnder (put_fragment path index g m)
  under-fragment path index Empty m a h = a
  under-fragment path index (Tree z zs r) m a h = under-put z zs path index m a h

-- The stops of a level whose first node is kept, where what is reached goes and comes.

module _ {L : Type 0} (is_element : L → Bool) where
  -- those of its first tree, where this element is the first after it, and these are the stops under it
  abbrev pub tree_stops : ℕ → Keyed L → (reaches leads : Bool) → Option ℕ → List Stop → List Stop
  tree_stops d n reaches leads next below =
      let from : Option ℕ = cond (is_element n.label) (Some n.key) next in
      cond reaches
      (record { depth = d; link = Some n.key; way = Past; from = from } ∷ (record { depth = d; link = Some n.key; way = Anew; from = next } ∷ []))
      (cond leads (record { depth = d; link = Some n.key; way = Inside; from = from } ∷ below) [])

  module _ (is_reached : ℕ → Bool) where
    abbrev pub first_stops : ℕ → Keyed L → (c r : Merge L) → List Stop
    first_stops d n c r =
        tree_stops d n (is_reached n.key) (has_place (reached is_reached c)) (first_element is_element (old_of r)) (stops_of is_element (suc d) (reached is_reached c))

    pub stops-first : (d : ℕ) (n : Keyed L) (c r : Merge L) → stops_of is_element d (reached is_reached (Kept n c r)) ≡ first_stops d n c r ++ stops_of is_element d (reached is_reached r)
    stops-first d n c r =
        let beside : first_element is_element (old_of (reached is_reached r)) ≡ first_element is_element (old_of r) = ap (first_element is_element) (old-reached is_reached r) in
        let below : List Stop = stops_of is_element (suc d) (reached is_reached c) in
        let after : List Stop = stops_of is_element d (reached is_reached r) in
        let leads : Bool = has_place (reached is_reached c) in
        elim (is_reached n.key) as (λ b. stops_of is_element d (at_kept is_reached b n c r) ≡ tree_stops d n b leads (first_element is_element (old_of r)) below ++ after) [
          | true ↦ ap (λ next. tree_stops d n true leads next below ++ after) beside
          | false ↦ ap (λ next. tree_stops d n false leads next below ++ after) beside
        ]

    pub place-first : (n : Keyed L) (c r : Merge L) → has_place (reached is_reached (Kept n c r)) ≡ cond (is_reached n.key) true (has_place (reached is_reached c) || has_place (reached is_reached r))
    place-first n c r =
        elim (is_reached n.key) as (λ b. has_place (at_kept is_reached b n c r) ≡ cond b true (has_place (reached is_reached c) || has_place (reached is_reached r))) [
          | true ↦ refl
          | false ↦ refl
        ]

    -- Where all places are in nodes that are reached, only the old forest tells the stops.

    abbrev of_old : Merge L → Merge L
    of_old m = all_kept (old_of m)

    same-place : (m : Merge L) → AreUnder is_reached m → has_place (reached is_reached m) ≡ has_place (reached is_reached (of_old m))
    same-place End a = refl
    same-place (Kept n c r) a =
        place-first n c r
        ∙ elim a.0 [
          | inl here ↦ ap (λ b. cond b true (has_place (reached is_reached c) || has_place (reached is_reached r))) here
              ∙ sym (ap (λ b. cond b true (has_place (reached is_reached (of_old c)) || has_place (reached is_reached (of_old r)))) here)
          | inr inner ↦
              let below = same-place c inner in
              let beside = same-place r a.1 in λ x. cond (is_reached n.key) true (below x || beside x)
        ]
        ∙ sym (place-first n (of_old c) (of_old r))
    same-place (Turned was n c r) a = absurd a
    same-place (Gone n c r) a = absurd a
    same-place (Come n c r) a = absurd a

    pub same-stops : (d : ℕ) (m : Merge L) → AreUnder is_reached m → stops_of is_element d (reached is_reached m) ≡ stops_of is_element d (reached is_reached (of_old m))
    same-stops d End a = refl
    same-stops d (Kept n c r) a =
        let next = ap (first_element is_element) (sym (old-all_kept (old_of r))) in
        let after = same-stops d r a.1 in
        stops-first d n c r
        ∙ elim a.0 [
          | inl here ↦
              ap (λ b. tree_stops d n b (has_place (reached is_reached c)) (first_element is_element (old_of r)) (stops_of is_element (suc d) (reached is_reached c)) ++ stops_of is_element d (reached is_reached r)) here
              ∙ (λ x. tree_stops d n true true (next x) [] ++ after x)
              ∙ sym (ap (λ b. tree_stops d n b (has_place (reached is_reached (of_old c))) (first_element is_element (old_of (of_old r))) (stops_of is_element (suc d) (reached is_reached (of_old c)))
              ++ stops_of is_element d (reached is_reached (of_old r))) here)
          | inr inner ↦
              let leads = same-place c inner in
              let below = same-stops (suc d) c inner in λ x. tree_stops d n (is_reached n.key) (leads x) (next x) (below x) ++ after x
        ]
        ∙ sym (stops-first d n (of_old c) (of_old r))
    same-stops d (Turned was n c r) a = absurd a
    same-stops d (Gone n c r) a = absurd a
    same-stops d (Come n c r) a = absurd a
