-- The stops of a merge tell which elements it enters. Throughout, n is a node, c what is under it, r what is after it, f trees,
-- m a merge, d a depth, and q the key of a node.
use Rattle.std.proofs.Common.{◌≡◌, ◌==◌, ◌<◌, ◌+◌, ◌||◌, ℕ, suc, Bool, true, false, cond, List, [], ◌∷◌, ◌++◌, flat_map, append_assoc, Option, Some, None, refl, sym, ap, ap₂, ◌∙◌, arith, eqb-true, eq-eqb}
use Rattle.std.specs.Prelude.{option_map, unwrap_or}
use Rattle.std.specs.Option.{option_or}
use Rattle.std.proofs.lemmas.Bool.{or_parts}
use Rattle.forest.specs.Forest.{Forest, Empty, Tree}
use Rattle.forest.specs.Keys.{Keyed, HasDistinctKeys, times}
use Rattle.forest.specs.Spots.{Spot, keyed, on_link, spot, tree_of}
use Rattle.forest.proofs.SpotLaws.{below-or-after, distinct-parts, not-root, spot-absent, spot-some, the_some, the_spot}
use Rattle.plain_types.specs.declared.node.Node.{Node}
use Rattle.node_arena.specs.Changes.{alone}
use Rattle.merged_walk.specs.declared.stop.Stop.{Stop}
use Rattle.merged_walk.specs.declared.stop.Way.TheVariants.{Inside}
use Rattle.merged_walk.specs.Merges.{Merge, End, Kept, Turned, Gone, Come, has_place, new_of}
use Rattle.merged_walk.specs.Stops.{stop_at, stops_of}
use Rattle.edit_merge.specs.EditMerges.{is_element}
use Rattle.edit_work.specs.KeyedSources.{elements_in}
use Rattle.reference_reach.specs.MergedNodes.{elements_at_stops, elements_by, entered_elements}

-- The tree of a node.
module _ (q : ℕ) where
  abbrev pub tree_in : Forest (Keyed Node) → Option (Forest (Keyed Node))
  tree_in Empty = None
  tree_in (Tree n c r) = cond (n.key == q) (Some (Tree n c Empty)) (option_or (tree_in c) (tree_in r))

  abbrev tree_at : Option (Spot Node) → Option (Forest (Keyed Node))
  tree_at o = option_map (λ (s : Spot Node). Tree (keyed q s.label) s.children Empty) o

  tree-choice : (b : Bool) (n : Keyed Node) (p : Option ℕ) (e : List (Keyed Node)) (c r : Forest (Keyed Node)) (x y : Option (Spot Node)) → (n.key == q) ≡ b
      → tree_at (cond b (Some (the_spot p e n.label c r)) (option_or x y)) ≡ cond b (Some (Tree n c Empty)) (option_or (tree_at x) (tree_at y))
  tree-choice true n p e c r x y is = ap (λ k. Some (Tree (keyed k n.label) c Empty)) (sym (eqb-true n.key q is))
  tree-choice false n p e c r None y is = refl
  tree-choice false n p e c r (Some x) y is = refl

  spot-tree : (f : Forest (Keyed Node)) (p : Option ℕ) (e : List (Keyed Node)) → tree_at (spot p e f q) ≡ tree_in f
  spot-tree Empty p e = refl
  spot-tree (Tree n c r) p e =
      tree-choice (n.key == q) n p e c r (spot (Some n.key) [] c q) (spot p (e ++ n ∷ []) r q) refl
      ∙ ap₂ (λ a b. cond (n.key == q) (Some (Tree n c Empty)) (option_or a b)) (spot-tree c (Some n.key) []) (spot-tree r p (e ++ n ∷ []))

  alone-at : (o : Option (Spot Node)) → alone (tree_of q o) ≡ unwrap_or (tree_at o) Empty
  alone-at None = refl
  alone-at (Some s) = refl

  alone-on : (f : Forest (Keyed Node)) → alone (on_link f (Some q)) ≡ unwrap_or (tree_in f) Empty
  alone-on f = alone-at (spot None [] f q) ∙ ap (λ o. unwrap_or o Empty) (spot-tree f None [])

  no-tree : (f : Forest (Keyed Node)) → times q f ≡ 0 → tree_in f ≡ None
  no-tree f h = sym (spot-tree f None []) ∙ ap tree_at (spot-absent f None [] q h)

  some-tree : (f : Forest (Keyed Node)) → 0 < times q f → (g : Forest (Keyed Node)) × (tree_in f ≡ Some g)
  some-tree f h =
      let s = the_some (spot None [] f q) (spot-some f None [] q h) in
      (Tree (keyed q s.0.label) s.0.children Empty, sym (spot-tree f None []) ∙ ap tree_at s.1)

  tree-root : (n : Keyed Node) (c r : Forest (Keyed Node)) → (n.key == q) ≡ true → tree_in (Tree n c r) ≡ Some (Tree n c Empty)
  tree-root n c r is = ap (λ b. cond b (Some (Tree n c Empty)) (option_or (tree_in c) (tree_in r))) is

  tree-below : (n : Keyed Node) (c r : Forest (Keyed Node)) → HasDistinctKeys (Tree n c r) → 0 < times q c → tree_in (Tree n c r) ≡ tree_in c
  tree-below n c r d h =
      let g = some-tree c h in
      ap (λ b. cond b (Some (Tree n c Empty)) (option_or (tree_in c) (tree_in r))) (not-root n c r q d (omega arith))
      ∙ ap (λ o. option_or o (tree_in r)) g.1
      ∙ sym g.1

  tree-beside : (n : Keyed Node) (c r : Forest (Keyed Node)) → HasDistinctKeys (Tree n c r) → 0 < times q r → tree_in (Tree n c r) ≡ tree_in r
  tree-beside n c r d h =
      ap (λ b. cond b (Some (Tree n c Empty)) (option_or (tree_in c) (tree_in r))) (not-root n c r q d (omega arith))
      ∙ ap (λ o. option_or o (tree_in r)) (no-tree c (below-or-after n c r q d h))

-- where nothing has a place, nothing is entered
none-entered : (m : Merge Node) → has_place m ≡ false → entered_elements m ≡ []
none-entered End h = refl
none-entered (Kept n c r) h =
    let parts = or_parts (has_place c) (has_place r) h in
    let below = none-entered c parts.0 in
    let beside = none-entered r parts.1 in λ t. cond (parts.0 t) (n.key ∷ []) [] ++ (below t ++ beside t)
none-entered (Turned was n c r) h = absurd (cc h)
none-entered (Gone n c r) h = absurd (cc h)
none-entered (Come n c r) h = absurd (cc h)

module _ (whole : Forest (Keyed Node)) where
  abbrev at : List Stop → List ℕ
  at stops = elements_at_stops whole stops

  at-append : (some more : List Stop) → at (some ++ more) ≡ at some ++ at more
  at-append [] more = refl
  at-append (stop ∷ some) more =
      ap (λ xs. elements_by whole stop.way stop.link ++ xs) (at-append some more)
      ∙ sym (append_assoc (elements_by whole stop.way stop.link) (at some) (at more))

  -- the trees of a level are those of the whole
  abbrev IsOf : Forest (Keyed Node) → Type 0
  IsOf f = (q : ℕ) → 0 < times q f → tree_in q whole ≡ tree_in q f

  of-below : (n : Keyed Node) (c r : Forest (Keyed Node)) → HasDistinctKeys (Tree n c r) → IsOf (Tree n c r) → IsOf c
  of-below n c r d is q there = is q (omega (arith, there)) ∙ tree-below q n c r d there

  of-beside : (n : Keyed Node) (c r : Forest (Keyed Node)) → HasDistinctKeys (Tree n c r) → IsOf (Tree n c r) → IsOf r
  of-beside n c r d is q there = is q (omega (arith, there)) ∙ tree-beside q n c r d there

  own-there : (n : Keyed Node) (c r : Forest (Keyed Node)) → 0 < times n.key (Tree n c r)
  own-there n c r = rw (eq-eqb n.key n.key refl) (omega arith)

  come-is : (n : Keyed Node) (c r : Forest (Keyed Node)) → IsOf (Tree n c r) → elements_in (alone (on_link whole (Some n.key))) ≡ elements_in (Tree n c Empty)
  come-is n c r is =
      ap elements_in
      (alone-on n.key whole
      ∙ ap (λ o. unwrap_or o Empty) (is n.key (own-there n c r) ∙ tree-root n.key n c r (eq-eqb n.key n.key refl)))

  abbrev Tells : ℕ → Merge Node → Type 0
  Tells d m = entered_elements m ≡ at (stops_of is_element d m)

  tells-kept : (d : ℕ) (n : Keyed Node) (c r : Merge Node) (b : Bool) → has_place c ≡ b → Tells (suc d) c → Tells d r
      → cond b (n.key ∷ []) [] ++ (entered_elements c ++ entered_elements r)
      ≡ at (cond b (stop_at is_element d Inside (Kept n c r) ∷ stops_of is_element (suc d) c) [] ++ stops_of is_element d r)
  tells-kept d n c r true is below beside =
      ap (λ xs. n.key ∷ xs) (ap₂ (λ xs ys. xs ++ ys) below beside ∙ sym (at-append (stops_of is_element (suc d) c) (stops_of is_element d r)))
  tells-kept d n c r false is below beside = ap₂ (λ xs ys. xs ++ ys) (none-entered c is) beside

  pub stops-tell : (d : ℕ) (m : Merge Node) → HasDistinctKeys (new_of m) → IsOf (new_of m) → Tells d m
  stops-tell d End distinct is = refl
  stops-tell d (Kept n c r) distinct is =
      let parts = distinct-parts n (new_of c) (new_of r) distinct in
      tells-kept d n c r (has_place c) refl
      (stops-tell (suc d) c parts.0 (of-below n (new_of c) (new_of r) distinct is))
      (stops-tell d r parts.1 (of-beside n (new_of c) (new_of r) distinct is))
  stops-tell d (Turned was n c r) distinct is =
      let parts = distinct-parts n (new_of c) (new_of r) distinct in
      let below = stops-tell (suc d) c parts.0 (of-below n (new_of c) (new_of r) distinct is) in
      let beside = stops-tell d r parts.1 (of-beside n (new_of c) (new_of r) distinct is) in
      ap (λ xs. n.key ∷ xs) (ap₂ (λ xs ys. xs ++ ys) below beside ∙ sym (at-append (stops_of is_element (suc d) c) (stops_of is_element d r)))
  stops-tell d (Gone n c r) distinct is = stops-tell d r distinct is
  stops-tell d (Come n c r) distinct is =
      let parts = distinct-parts n c (new_of r) distinct in
      ap₂ (λ xs ys. xs ++ ys) (sym (come-is n c (new_of r) is)) (stops-tell d r parts.1 (of-beside n c (new_of r) distinct is))
