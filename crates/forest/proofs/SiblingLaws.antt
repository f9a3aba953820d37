-- Siblings by their parent's children.
use Rattle.std.proofs.Common.{◌≡◌, ◌<◌, ◌+◌, ◌-◌, ◌⊎◌, inl, inr, ℕ, zero, suc, List, [], ◌∷◌, ◌++◌, length, map, Option, Some, None, slice_get, refl, sym, ap, subst, ◌∙◌, arith, length-append}
use Rattle.std.proofs.lemmas.Option.{none-some, slice_get_past}
use Rattle.std.proofs.lemmas.Bool.{cases_lt}
use Rattle.std.proofs.lemmas.List.{map-append, length-map}
use Rattle.forest.specs.Forest.{Forest, Empty, Tree, IsOneTree}
use Rattle.forest.specs.Keys.{Keyed, HasDistinctKeys}
use Rattle.forest.specs.Spots.{Spot, keyed, spot_of, roots, root_keys, first_key, IsLive, IsLink, earlier_of, children_of, after_of, parent_of, index_of, child_of, next_sibling_of, previous_sibling_of}
use Rattle.forest.specs.Paths.{trees_from}
use Rattle.forest.proofs.SpotLaws.{live-spot, the_spot, spot-child, spot-next}
use Rattle.forest.proofs.StandLaws.{stands, as_root, under}
use Rattle.forest.proofs.PathLaws.{roots-children, first-tree, first-from, parent-live}
use Rattle.forest.proofs.WalkLaws.{slice_get-behind}

slice_get-before : {A : Type 0} (front ys : List A) (n : ℕ) → n < length front → slice_get (front ++ ys) n ≡ slice_get front n
slice_get-before [] ys n h = absurd (omega arith)
slice_get-before (x ∷ front) ys zero h = refl
slice_get-before (x ∷ front) ys (suc n) h = slice_get-before front ys n (omega arith)

module _ {L : Type 0} where
  -- the keys of siblings before a node
  abbrev earlier_keys : Forest (Keyed L) → ℕ → List ℕ
  earlier_keys f q = map (λ (n : Keyed L). n.key) (earlier_of f q)

  -- a node among the children of its parent
  pub keys-children : (f : Forest (Keyed L)) (q x : ℕ) → HasDistinctKeys f → IsLive f q → parent_of f q ≡ Some x → root_keys (children_of f x) ≡ map (λ (n : Keyed L). n.key) (earlier_of f q) ++ q ∷ root_keys (after_of f q)
  keys-children f q x d h e =
      let s = live-spot f q h in
      ap (map (λ (n : Keyed L). n.key)) (roots-children f q x s.0.label d h e (rw s.1 refl))
      ∙ map-append (λ (n : Keyed L). n.key) (earlier_of f q) (keyed q s.0.label ∷ roots (after_of f q))

  pub index-within : (f : Forest (Keyed L)) (q x : ℕ) → HasDistinctKeys f → IsLive f q → parent_of f q ≡ Some x → index_of f q < length (root_keys (children_of f x))
  index-within f q x d h e =
      omega (arith, ap length (keys-children f q x d h e), length-append (earlier_keys f q) (q ∷ root_keys (after_of f q)), length-map (earlier_of f q) (λ (n : Keyed L). n.key))

  -- a node is the child of its parent that its index tells
  pub child-index : (f : Forest (Keyed L)) (q x : ℕ) → HasDistinctKeys f → IsLive f q → parent_of f q ≡ Some x → child_of f x (index_of f q) ≡ Some q
  child-index f q x d h e =
      ap (λ ks. slice_get ks (index_of f q)) (keys-children f q x d h e)
      ∙ slice_get-behind (earlier_keys f q) (q ∷ root_keys (after_of f q)) (index_of f q) 0 (omega (arith, length-map (earlier_of f q) (λ (n : Keyed L). n.key)))

  first-is : (g : Forest (Keyed L)) → first_key g ≡ slice_get (root_keys g) 0
  first-is Empty = refl
  first-is (Tree n c r) = refl

  pub next-is-child : (f : Forest (Keyed L)) (q x : ℕ) → HasDistinctKeys f → IsLive f q → parent_of f q ≡ Some x → next_sibling_of f q ≡ child_of f x (index_of f q + 1)
  next-is-child f q x d h e =
      first-is (after_of f q)
      ∙ sym (ap (λ ks. slice_get ks (index_of f q + 1)) (keys-children f q x d h e)
      ∙ slice_get-behind (earlier_keys f q) (q ∷ root_keys (after_of f q)) (index_of f q + 1) 1 (omega (arith, length-map (earlier_of f q) (λ (n : Keyed L). n.key))))

  pub previous-is-child : (f : Forest (Keyed L)) (q x i : ℕ) → HasDistinctKeys f → IsLive f q → parent_of f q ≡ Some x → index_of f q ≡ i + 1 → previous_sibling_of f q ≡ child_of f x i
  previous-is-child f q x i d h e is =
      ap (slice_get (earlier_keys f q)) (omega arith)
      ∙ sym (ap (λ ks. slice_get ks i) (keys-children f q x d h e)
      ∙ slice_get-before (earlier_keys f q) (q ∷ root_keys (after_of f q)) i (omega (arith, length-map (earlier_of f q) (λ (n : Keyed L). n.key))))

  pub previous-none : (f : Forest (Keyed L)) (q : ℕ) → index_of f q ≡ 0 → previous_sibling_of f q ≡ None
  previous-none f q is = slice_get_past (earlier_keys f q) (index_of f q - 1) (omega (arith, length-map (earlier_of f q) (λ (n : Keyed L). n.key)))

  alone : (f : Forest (Keyed L)) (earlier : List (Keyed L)) (n : Keyed L) (g : Forest (Keyed L)) → IsOneTree f → [] ++ roots f ≡ earlier ++ n ∷ roots g → (earlier ≡ []) × (g ≡ Empty)
  alone Empty earlier n g one e = absurd one
  alone (Tree m c Empty) [] n Empty one e = (refl, refl)
  alone (Tree m c Empty) [] n (Tree k d r) one e = absurd (let e' : m ∷ [] ≡ n ∷ (k ∷ roots r) = e in cc)
  alone (Tree m c Empty) (k ∷ []) n g one e = absurd (let e' : m ∷ [] ≡ k ∷ (n ∷ roots g) = e in cc)
  alone (Tree m c Empty) (k ∷ (l ∷ earlier)) n g one e = absurd (let e' : m ∷ [] ≡ k ∷ (l ∷ (earlier ++ n ∷ roots g)) = e in cc)
  alone (Tree m c (Tree k d r)) earlier n g one e = absurd (let e' : Tree k d r ≡ Empty = one in cc)

  -- a root of a document has no siblings
  pub root-alone : (f : Forest (Keyed L)) (q : ℕ) → HasDistinctKeys f → IsOneTree f → IsLive f q → parent_of f q ≡ None → (index_of f q ≡ 0) × (next_sibling_of f q ≡ None)
  root-alone f q d one h e =
      let s = live-spot f q h in
      elim (stands f None [] 0 0 q s.0 d refl s.1) [
        | as_root r ↦ let a = alone f s.0.earlier (keyed q s.0.label) s.0.after one r.siblings in rw (s.1, a.0, a.1) (refl, refl)
        | under y u ↦ absurd (none-some y (sym (rw s.1 at e) ∙ u.parent))
      ]

module _ {L : Type 0} where
  no-trees : (i : ℕ) (g : Forest (Keyed L)) (m : Keyed L) (c r : Forest (Keyed L)) → g ≡ Empty → trees_from i g ≡ Tree m c r → ⊥
  no-trees zero Empty m c r none is = cc
  no-trees (suc i) Empty m c r none is = cc
  no-trees i (Tree n c0 r0) m c r none is = cc

  spot-says : (f : Forest (Keyed L)) (k : ℕ) (s : Spot L) (i : ℕ) → spot_of f k ≡ Some s → length s.earlier ≡ i → IsLive f k × (parent_of f k ≡ s.parent) × (index_of f k ≡ i)
  spot-says f k s i at long = rw at (refl, refl, long)

module _ {L : Type 0} (f : Forest (Keyed L)) (q : ℕ) (d : HasDistinctKeys f) where
  -- a later sibling of a child
  later : (i : ℕ) (e : List (Keyed L)) (n m : Keyed L) (c0 r0 c r : Forest (Keyed L)) → spot_of f n.key ≡ Some (the_spot (Some q) e n.label c0 r0) → trees_from i (Tree n c0 r0) ≡ Tree m c r → (e' : List (Keyed L)) × (spot_of f m.key ≡ Some (the_spot (Some q) e' m.label c r)) × (length e' ≡ length e + i)
  later zero e n m c0 r0 c r at is =
      let key : n ≡ m = cc in
      let inside : c0 ≡ c = cc in
      let after : r0 ≡ r = cc in
      (e, subst (λ (k : Keyed L). spot_of f k.key ≡ Some (the_spot (Some q) e k.label c r)) key (subst (λ g. spot_of f n.key ≡ Some (the_spot (Some q) e n.label g r)) inside (subst (λ g. spot_of f n.key ≡ Some (the_spot (Some q) e n.label c0 g)) after at)), omega arith)
  later (suc i) e n m c0 Empty c r at is = absurd (no-trees i Empty m c r refl is)
  later (suc i) e n m c0 (Tree k i0 s0) c r at is =
      let next = spot-next f None [] n.key (the_spot (Some q) e n.label c0 (Tree k i0 s0)) k i0 s0 d at refl in
      let h = later i (e ++ keyed n.key n.label ∷ []) k m i0 s0 c r next is in
      (h.0, h.1, omega (arith, h.2, length-append e (keyed n.key n.label ∷ [])))

  among : (i : ℕ) (g : Forest (Keyed L)) (s : Spot L) (m : Keyed L) (c r : Forest (Keyed L)) → spot_of f q ≡ Some s → s.children ≡ g → trees_from i g ≡ Tree m c r → (e : List (Keyed L)) × (spot_of f m.key ≡ Some (the_spot (Some q) e m.label c r)) × (length e ≡ i)
  among i Empty s m c r at inside is = absurd (no-trees i Empty m c r refl is)
  among i (Tree n c0 r0) s m c r at inside is =
      let h = later i [] n m c0 r0 c r (spot-child f None [] q s n c0 r0 d at inside) is in
      (h.0, h.1, omega (arith, h.2))

  -- a child of a node has that node for its parent, and its index is the one that was asked for
  pub child-is : (i k : ℕ) → IsLive f q → child_of f q i ≡ Some k → IsLive f k × (parent_of f k ≡ Some q) × (index_of f k ≡ i)
  child-is i k live e =
      let s = live-spot f q live in
      let t = first-tree (trees_from i (children_of f q)) k (first-from i (children_of f q) ∙ e) in
      let inside : s.0.children ≡ children_of f q = rw s.1 refl in
      let h = among i (children_of f q) s.0 t.0 t.1 t.2 s.1 inside t.3 in
      let at : spot_of f k ≡ Some (the_spot (Some q) h.0 t.0.label t.1 t.2) = subst (λ x. spot_of f x ≡ Some (the_spot (Some q) h.0 t.0.label t.1 t.2)) t.4 h.1 in
      spot-says f k (the_spot (Some q) h.0 t.0.label t.1 t.2) i at h.2

-- Links from a node lead to nodes.
module _ {L : Type 0} where
  pub link-from : (f : Forest (Keyed L)) (link : Option ℕ) → ((k : ℕ) → link ≡ Some k → IsLive f k) → IsLink f link
  link-from f None live = tt
  link-from f (Some k) live = live k refl

  pub parent-link : (f : Forest (Keyed L)) (q : ℕ) → HasDistinctKeys f → IsLive f q → IsLink f (parent_of f q)
  parent-link f q d live = link-from f (parent_of f q) (λ k e. parent-live f q k d live e)

  pub child-link : (f : Forest (Keyed L)) (q i : ℕ) → HasDistinctKeys f → IsLive f q → IsLink f (child_of f q i)
  child-link f q i d live = link-from f (child_of f q i) (λ k e. (child-is f q d i k live e).0)

  pub previous-link : (f : Forest (Keyed L)) (q : ℕ) → HasDistinctKeys f → IsOneTree f → IsLive f q → IsLink f (previous_sibling_of f q)
  previous-link f q d one live =
      elim (parent_of f q) as (λ (o : Option ℕ). parent_of f q ≡ o → IsLink f (previous_sibling_of f q)) [
        | None ↦ λ e. subst (IsLink f) (sym (previous-none f q (root-alone f q d one live e).0)) tt
        | Some x ↦ λ e. elim (cases_lt 0 (index_of f q)) [
          | inl some ↦ subst (IsLink f) (sym (previous-is-child f q x (index_of f q - 1) d live e (omega arith))) (child-link f x (index_of f q - 1) d (parent-live f q x d live e))
          | inr none ↦ subst (IsLink f) (sym (previous-none f q (omega arith))) tt
        ]
      ] refl
