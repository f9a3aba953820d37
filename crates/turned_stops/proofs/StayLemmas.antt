-- Each element of the new forest of a merge stays or comes. Throughout, n is a node, c what is under it, r what is after it, m a merge, d a depth,
-- p the parent of a level and e the nodes of the level before it, and k a key.
use Rattle.std.proofs.Common.{◌≡◌, ◌==◌, ◌≤◌, ◌+◌, ◌||◌, ◌&&◌, ℕ, suc, Bool, true, false, cond, List, [], ◌∷◌, ◌++◌, Option, Some, None, refl, sym, ap, ◌∙◌, arith}
use Rattle.std.specs.Prelude.{not}
use Rattle.std.proofs.lemmas.Grind.{flat_map-append}
use Rattle.std.proofs.lemmas.List.Folds.{list_any-append}
use Rattle.forest.specs.Forest.{Forest, Empty, Tree}
use Rattle.forest.specs.Keys.{Keyed, HasDistinctKeys, times}
use Rattle.forest.specs.Spots.{spot_of, tree_of}
use Rattle.forest.proofs.SpotLaws.{distinct-parts, spot-child, spot-next, spot-root, the_spot}
use Rattle.plain_types.specs.declared.node.Node.{Node}
use Rattle.node_arena.specs.Changes.{alone}
use Rattle.merged_walk.specs.declared.stop.Stop.{Stop}
use Rattle.merged_walk.specs.declared.stop.Way.TheVariants.{Inside}
use Rattle.merged_walk.specs.Merges.{Merge, End, Kept, Turned, Gone, Come, has_place, new_of}
use Rattle.merged_walk.specs.Stops.{stop_at, stops_of}
use Rattle.merged_walk.proofs.StopLaws.{stops-none}
use Rattle.edit_merge.specs.EditMerges.{is_element}
use Rattle.edit_work.specs.KeyedSources.{elements_in, is_among}
use Rattle.start_reach.specs.TurnedElements.{stays}
use Rattle.turned_stops.specs.Coming.{coming_at_stops, coming_by}
use Rattle.turned_stops.proofs.ElementCounts.{Says, elements-count, one, or-one}

own-one : (element t : Bool) → (t ≡ true → element ≡ true) → one (element && t) ≡ one t
own-one true t says = refl
own-one false true says = absurd (cc (says refl))
own-one false false says = refl

-- what stays and what comes of a node that stays, where x is the node itself
node-counts : (x s t y z : Bool) (u v w : ℕ) → (u + (v + w)) ≤ 1 → one x ≡ u → one s + one y ≡ v → one t + one z ≡ w → one (x || (s || t)) + one (y || z) ≡ u + (v + w)
node-counts x s t y z u v w few own below beside =
    let inner : one (s || t) ≡ one s + one t = or-one s t (omega (arith, few, below, beside)) in
    let outer : one (x || (s || t)) ≡ one x + one (s || t) = or-one x (s || t) (omega (arith, few, own, below, beside, inner)) in
    let come : one (y || z) ≡ one y + one z = or-one y z (omega (arith, few, below, beside)) in
    omega (arith, own, below, beside, inner, outer, come)

-- and of a tree that comes, where y is that tree
tree-counts : (t y z : Bool) (v w : ℕ) → (v + w) ≤ 1 → one y ≡ v → one t + one z ≡ w → one t + one (y || z) ≡ v + w
tree-counts t y z v w few own beside =
    let come : one (y || z) ≡ one y + one z = or-one y z (omega (arith, few, own, beside)) in
    omega (arith, own, beside, come)

pub one-not : (x y : Bool) → one x + one y ≡ 1 → x ≡ not y
one-not true true h = absurd (omega (arith, h))
one-not true false h = refl
one-not false true h = refl
one-not false false h = absurd (omega (arith, h))

module _ (whole : Forest (Keyed Node)) (distinct : HasDistinctKeys whole) (k : ℕ) where
  -- trees stand in the document, under this parent and after these siblings
  abbrev Stands : Option ℕ → List (Keyed Node) → Forest (Keyed Node) → Type 0
  Stands p e Empty = Unit {0}
  Stands p e (Tree n c r) = spot_of whole n.key ≡ Some (the_spot p e n.label c r)

  pub stands-top : (g : Forest (Keyed Node)) → whole ≡ g → Stands None [] g
  stands-top Empty is = tt
  stands-top (Tree n c r) is = ap (λ g. spot_of g n.key) is ∙ spot-root None [] n c r

  stands-below : (p : Option ℕ) (e : List (Keyed Node)) (n : Keyed Node) (c r : Forest (Keyed Node)) → Stands p e (Tree n c r) → (g : Forest (Keyed Node)) → c ≡ g → Stands (Some n.key) [] g
  stands-below p e n c r at Empty is = tt
  stands-below p e n c r at (Tree m d s) is = spot-child whole None [] n.key (the_spot p e n.label c r) m d s distinct at is

  stands-beside : (p : Option ℕ) (e : List (Keyed Node)) (n : Keyed Node) (c r : Forest (Keyed Node)) → Stands p e (Tree n c r) → (g : Forest (Keyed Node)) → r ≡ g → Stands p (e ++ n ∷ []) g
  stands-beside p e n c r at Empty is = tt
  stands-beside p e n c r at (Tree m d s) is = spot-next whole None [] n.key (the_spot p e n.label c r) m d s distinct at is

  abbrev comes : List Stop → Bool
  comes stops = is_among (coming_at_stops whole stops) k

  comes-either : (some more : List Stop) → comes (some ++ more) ≡ (comes some || comes more)
  comes-either some more =
      ap (λ keys. is_among keys k) (flat_map-append (λ (stop : Stop). coming_by whole stop.way stop.link) some more)
      ∙ list_any-append (λ other. other == k) (coming_at_stops whole some) (coming_at_stops whole more)

  comes-kept : (d : ℕ) (n : Keyed Node) (c r : Merge Node) (b : Bool) → has_place c ≡ b
      → comes (cond b (stop_at is_element d Inside (Kept n c r) ∷ stops_of is_element (suc d) c) [] ++ stops_of is_element d r)
      ≡ (comes (stops_of is_element (suc d) c) || comes (stops_of is_element d r))
  comes-kept d n c r true is = comes-either (stops_of is_element (suc d) c) (stops_of is_element d r)
  comes-kept d n c r false is = ap (λ stops. comes stops || comes (stops_of is_element d r)) (sym (stops-none is_element (suc d) c is))

  comes-tree : (p : Option ℕ) (e : List (Keyed Node)) (n : Keyed Node) (c r : Forest (Keyed Node)) → Stands p e (Tree n c r)
      → elements_in (alone (tree_of n.key (spot_of whole n.key))) ≡ elements_in (Tree n c Empty)
  comes-tree p e n c r at = ap (λ o. elements_in (alone (tree_of n.key o))) at

  abbrev Counts : ℕ → Merge Node → Type 0
  Counts d m = one (stays is_element k m) + one (comes (stops_of is_element d m)) ≡ times k (new_of m)

  pub stays-counted : (d : ℕ) (m : Merge Node) (p : Option ℕ) (e : List (Keyed Node)) → Stands p e (new_of m) → HasDistinctKeys (new_of m) → Says k true (new_of m) → Counts d m
  stays-counted d End p e at apart says = refl
  stays-counted d (Kept n c r) p e at apart says =
      let parts = distinct-parts n (new_of c) (new_of r) apart in
      let below = stays-counted (suc d) c (Some n.key) [] (stands-below p e n (new_of c) (new_of r) at (new_of c) refl) parts.0 says.1 in
      let beside = stays-counted d r p (e ++ n ∷ []) (stands-beside p e n (new_of c) (new_of r) at (new_of r) refl) parts.1 says.2 in
      ap (λ b. one (stays is_element k (Kept n c r)) + one b) (comes-kept d n c r (has_place c) refl)
      ∙ node-counts (is_element n.label && n.key == k) (stays is_element k c) (stays is_element k r) (comes (stops_of is_element (suc d) c)) (comes (stops_of is_element d r))
      (one (n.key == k)) (times k (new_of c)) (times k (new_of r)) (apart k) (own-one (is_element n.label) (n.key == k) says.0) below beside
  stays-counted d (Turned was n c r) p e at apart says =
      let parts = distinct-parts n (new_of c) (new_of r) apart in
      let below = stays-counted (suc d) c (Some n.key) [] (stands-below p e n (new_of c) (new_of r) at (new_of c) refl) parts.0 says.1 in
      let beside = stays-counted d r p (e ++ n ∷ []) (stands-beside p e n (new_of c) (new_of r) at (new_of r) refl) parts.1 says.2 in
      ap (λ b. one (stays is_element k (Turned was n c r)) + one b) (comes-either (stops_of is_element (suc d) c) (stops_of is_element d r))
      ∙ node-counts (is_element n.label && n.key == k) (stays is_element k c) (stays is_element k r) (comes (stops_of is_element (suc d) c)) (comes (stops_of is_element d r))
      (one (n.key == k)) (times k (new_of c)) (times k (new_of r)) (apart k) (own-one (is_element n.label) (n.key == k) says.0) below beside
  stays-counted d (Gone n c r) p e at apart says = stays-counted d r p e at apart says
  stays-counted d (Come n c r) p e at apart says =
      let parts = distinct-parts n c (new_of r) apart in
      let beside = stays-counted d r p (e ++ n ∷ []) (stands-beside p e n c (new_of r) at (new_of r) refl) parts.1 says.2 in
      let own : one (is_among (elements_in (Tree n c Empty)) k) ≡ one (n.key == k) + (times k c + 0) =
      elements-count k true (Tree n c Empty) (λ x. omega (arith, apart x)) (says.0, says.1, tt) in
      let count : one (is_among (elements_in (Tree n c Empty)) k) ≡ one (n.key == k) + times k c = omega (arith, own) in
      let few : (one (n.key == k) + times k c + times k (new_of r)) ≤ 1 = omega (arith, apart k) in
      let sum = tree-counts (stays is_element k r) (is_among (elements_in (Tree n c Empty)) k) (comes (stops_of is_element d r)) (one (n.key == k) + times k c) (times k (new_of r)) few count beside in
      ap (λ b. one (stays is_element k r) + one b)
      (list_any-append (λ other. other == k) (elements_in (alone (tree_of n.key (spot_of whole n.key)))) (coming_at_stops whole (stops_of is_element d r))
      ∙ ap (λ keys. is_among keys k || comes (stops_of is_element d r)) (comes-tree p e n c (new_of r) at))
      ∙ omega (arith, sum)
