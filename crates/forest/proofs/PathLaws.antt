-- A path leads to at most one node, and each node has one path.
use Rattle.std.proofs.Common.{◌≡◌, ◌==◌, ◌<◌, ◌+◌, ℕ, zero, suc, true, false, cond, List, [], ◌∷◌, ◌++◌, drop, ap₂, Option, Some, None, IsSome, option_map, refl, sym, ap, subst, ◌∙◌, inl, inr, arith, eqb-true, eq-eqb, slice_get}
use Rattle.std.specs.Option.{option_or}
use Rattle.std.proofs.lemmas.Option.{none-some, same_Some}
use Rattle.forest.specs.Forest.{Forest, Empty, Tree, IsOneTree}
use Rattle.forest.specs.Keys.{Keyed, times, HasDistinctKeys}
use Rattle.forest.specs.Spots.{Spot, keyed, roots, root_keys, first_key, spot, spot_of, IsLive, children_of, after_of, child_of, parent_of, earlier_of, index_of, label_of}
use Rattle.forest.specs.Paths.{trees_from, on_path, key_at, route, route_of, path_of}
use Rattle.forest.proofs.SpotLaws.{chosen, first_found, distinct-parts, live-spot, live-counted, counted-live, the_some, some_or_none, the_spot, spot-root, spot-below, spot-beside}
use Rattle.forest.proofs.StandLaws.{as_root, under, stands, route-below, route-beside, route-root, route-absent}

pub mapped-some : {A B : Type 0} (f : A → B) (o : Option A) (y : B) → option_map f o ≡ Some y → (x : A) × (o ≡ Some x) × (f x ≡ y)
mapped-some f None y e = absurd (none-some y e)
mapped-some f (Some x) y e = (x, refl, same_Some _ _ e)

module _ {L : Type 0} where
  counted-first : (f : Forest (Keyed L)) (q : ℕ) → first_key f ≡ Some q → 0 < times q f
  counted-first Empty q e = absurd (none-some q e)
  counted-first (Tree n c r) q e = rw (eq-eqb n.key q (same_Some _ _ e)) (omega arith)

  nothing-at : (f : Forest (Keyed L)) (i : ℕ) (path : List ℕ) (q : ℕ) → f ≡ Empty → first_key (on_path path (trees_from i f)) ≡ Some q → ⊥
  nothing-at Empty zero [] q is e = none-some q e
  nothing-at Empty zero (k ∷ path) q is e = none-some q e
  nothing-at Empty (suc i) [] q is e = none-some q e
  nothing-at Empty (suc i) (k ∷ path) q is e = none-some q e
  nothing-at (Tree n c r) i path q is e = cc

  -- what a path leads to stands in the forest
  pub path-counted : (f : Forest (Keyed L)) (i : ℕ) (path : List ℕ) (q : ℕ) → first_key (on_path path (trees_from i f)) ≡ Some q → 0 < times q f
  path-counted Empty i path q e = absurd (nothing-at Empty i path q refl e)
  path-counted (Tree n c r) zero [] q e = rw (eq-eqb n.key q (same_Some _ _ e)) (omega arith)
  path-counted (Tree n c r) zero (k ∷ path) q e = omega (arith, path-counted c k path q e)
  path-counted (Tree n c r) (suc i) path q e = omega (arith, path-counted r i path q e)

  -- and its route is that path
  pub path-route : (f : Forest (Keyed L)) (i j : ℕ) (path : List ℕ) (q : ℕ) → HasDistinctKeys f → first_key (on_path path (trees_from i f)) ≡ Some q → route j f q ≡ Some ((j + i) ∷ path)
  path-route Empty i j path q d e = absurd (nothing-at Empty i path q refl e)
  path-route (Tree n c r) zero j [] q d e = rw (← same_Some _ _ e) (route-root j n c r ∙ ap (λ k. Some (k ∷ [])) (omega arith))
  path-route (Tree n c r) zero j (k ∷ path) q d e =
      let parts = distinct-parts n c r d in
      let below : route 0 c q ≡ Some (k ∷ path) = path-route c k 0 path q parts.0 e ∙ ap (λ first. Some (first ∷ path)) (omega arith) in
      route-below j n c r q (k ∷ path) d (path-counted c k path q e) below ∙ ap (λ first. Some (first ∷ (k ∷ path))) (omega arith)
  path-route (Tree n c r) (suc i) j path q d e =
      let parts = distinct-parts n c r d in
      route-beside j n c r q d (path-counted r i path q e) ∙ path-route r i (j + 1) path q parts.1 e ∙ ap (λ first. Some (first ∷ path)) (omega arith)

  -- the way back: a route leads to its node
  pub route-path : (f : Forest (Keyed L)) (j q : ℕ) (steps : List ℕ) → route j f q ≡ Some steps → (i : ℕ) × (path : List ℕ) × (steps ≡ (j + i) ∷ path) × (first_key (on_path path (trees_from i f)) ≡ Some q)
  route-path Empty j q steps e = absurd (none-some steps e)
  route-path (Tree n c r) j q steps e =
      elim (chosen (n.key == q) _ _ _ e) [
        | inl h ↦ (0, [], sym (same_Some _ _ h.1) ∙ ap (λ k. k ∷ []) (omega arith), ap (λ k. Some k) (eqb-true n.key q h.0))
        | inr h ↦ elim (first_found _ _ steps h.1) [
          | inl a ↦
              let m = mapped-some (λ (xs : List ℕ). j ∷ xs) (route 0 c q) steps a in
              let h = route-path c 0 q m.0 m.1 in
              (0, m.0, sym m.2 ∙ ap (λ k. k ∷ m.0) (omega arith), subst (λ (xs : List ℕ). first_key (on_path xs (Tree n c r)) ≡ Some q) (sym (h.2 ∙ ap (λ k. k ∷ h.1) (omega arith))) h.3)
          | inr b ↦
              let h = route-path r (j + 1) q steps b.1 in
              (suc h.0, h.1, h.2 ∙ ap (λ k. k ∷ h.1) (omega arith), h.3)
        ]
      ]

  pub route-counted : (f : Forest (Keyed L)) (j q : ℕ) (steps : List ℕ) → route j f q ≡ Some steps → 0 < times q f
  route-counted f j q steps e = let h = route-path f j q steps e in path-counted f h.0 h.1 q h.3

  -- a path is that of the node at it
  pub path_of-key_at : (f : Forest (Keyed L)) (path : List ℕ) (q : ℕ) → HasDistinctKeys f → key_at f path ≡ Some q → path_of f q ≡ path
  path_of-key_at f path q d e = rw (path-route f 0 0 path q d e) refl

  past-one : (n : Keyed L) (c r : Forest (Keyed L)) (q i : ℕ) (path : List ℕ) → r ≡ Empty → first_key (on_path path (trees_from i (Tree n c r))) ≡ Some q → i ≡ 0
  past-one n c r q zero path one e = refl
  past-one n c r q (suc i) path one e = absurd (nothing-at r i path q one e)

  at-route : (f : Forest (Keyed L)) (q : ℕ) (steps : List ℕ) → IsOneTree f → route 0 f q ≡ Some steps → (path : List ℕ) × (steps ≡ 0 ∷ path) × (key_at f path ≡ Some q)
  at-route Empty q steps one e = absurd one
  at-route (Tree n c r) q steps one e =
      let h = route-path (Tree n c r) 0 q steps e in
      let none : h.0 ≡ 0 = past-one n c r q h.0 h.1 one h.3 in
      (h.1, h.2 ∙ ap (λ k. k ∷ h.1) (omega arith), subst (λ i. first_key (on_path h.1 (trees_from i (Tree n c r))) ≡ Some q) none h.3)

  route-some : (f : Forest (Keyed L)) (i q : ℕ) → 0 < times q f → IsSome (route i f q)
  route-some Empty i q h = absurd (omega arith)
  route-some (Tree n c r) i q h =
      elim (n.key == q) as (λ b. 0 < cond b 1 0 + (times q c + times q r) → IsSome (cond b (Some (i ∷ [])) (option_or (option_map (λ steps. i ∷ steps) (route 0 c q)) (route (i + 1) r q)))) [
        | true ↦ λ h. refl
        | false ↦ λ h. elim (some_or_none (times q c)) [
          | inl z ↦ rw (route-absent c 0 q z) (route-some r (i + 1) q (omega arith))
          | inr z ↦ let s = the_some (route 0 c q) (route-some c 0 q z) in rw s.1 refl
        ]
      ] h

  -- the route of a live node
  pub live-route : (f : Forest (Keyed L)) (q : ℕ) → IsLive f q → route 0 f q ≡ Some (route_of f q)
  live-route f q h = let s = the_some (route 0 f q) (route-some f 0 q (live-counted f q h)) in rw s.1 refl

  -- the node at the path of a live node is that node
  pub key_at-path_of : (f : Forest (Keyed L)) (q : ℕ) → IsOneTree f → IsLive f q → key_at f (path_of f q) ≡ Some q
  key_at-path_of f q one h =
      let r : route 0 f q ≡ Some (route_of f q) = live-route f q h in
      let a = at-route f q (route_of f q) one r in
      subst (λ (xs : List ℕ). key_at f (drop 1 xs) ≡ Some q) (sym a.1) a.2

  -- in a document a route begins at the root
  pub route_of-path_of : (f : Forest (Keyed L)) (q : ℕ) → IsOneTree f → IsLive f q → route_of f q ≡ 0 ∷ path_of f q
  route_of-path_of f q one h =
      let a = at-route f q (route_of f q) one (live-route f q h) in
      a.1 ∙ ap (λ (xs : List ℕ). 0 ∷ drop 1 xs) (sym a.1)

  -- two nodes have two routes
  pub same-route : (f : Forest (Keyed L)) (i a b : ℕ) (steps : List ℕ) → route i f a ≡ Some steps → route i f b ≡ Some steps → a ≡ b
  same-route f i a b steps first second =
      let x = route-path f i a steps first in
      let y = route-path f i b steps second in
      let same : (i + x.0) ∷ x.1 ≡ (i + y.0) ∷ y.1 = sym x.2 ∙ y.2 in
      let start : i + x.0 ≡ i + y.0 = cc in
      let path : x.1 ≡ y.1 = cc in
      let position : x.0 ≡ y.0 = omega arith in
      same_Some a b (sym x.3 ∙ ap₂ (λ (k : ℕ) (xs : List ℕ). first_key (on_path xs (trees_from k f))) position path ∙ y.3)

  -- a step down
  pub on_path-append : (first rest : List ℕ) (f : Forest (Keyed L)) → on_path (first ++ rest) f ≡ on_path rest (on_path first f)
  on_path-append [] rest f = refl
  on_path-append (i ∷ first) [] Empty = refl
  on_path-append (i ∷ first) (k ∷ rest) Empty = refl
  on_path-append (i ∷ first) rest (Tree n c r) = on_path-append first rest (trees_from i c)

  -- what a path leads to is what the link to its node leads to
  abbrev IsPart : Option ℕ → List (Keyed L) → Forest (Keyed L) → Keyed L → Forest (Keyed L) → Forest (Keyed L) → Type 0
  IsPart p e f m c r = (s : Spot L) × (spot p e f m.key ≡ Some s) × (s.label ≡ m.label) × (s.children ≡ c) × (s.after ≡ r)

  path-part : (f : Forest (Keyed L)) (p : Option ℕ) (e : List (Keyed L)) (i : ℕ) (path : List ℕ) (m : Keyed L) (c r : Forest (Keyed L)) → HasDistinctKeys f → on_path path (trees_from i f) ≡ Tree m c r → IsPart p e f m c r
  path-part Empty p e i path m c r d is = absurd (nothing-at Empty i path m.key refl (ap first_key is))
  path-part (Tree n c0 r0) p e zero [] m c r d is =
      let key : n ≡ m = cc in
      (the_spot p e n.label c0 r0, subst (λ k. spot p e (Tree n c0 r0) k ≡ Some (the_spot p e n.label c0 r0)) (ap (λ x. x.key) key) (spot-root p e n c0 r0), ap (λ x. x.label) key, cc, cc)
  path-part (Tree n c0 r0) p e zero (k ∷ path) m c r d is =
      let h = path-part c0 (Some n.key) [] k path m c r (distinct-parts n c0 r0 d).0 is in
      (h.0, spot-below p e n c0 r0 m.key h.0 d h.1, h.2, h.3, h.4)
  path-part (Tree n c0 r0) p e (suc i) path m c r d is =
      let h = path-part r0 p (e ++ n ∷ []) i path m c r (distinct-parts n c0 r0 d).1 is in
      (h.0, spot-beside p e n c0 r0 m.key h.0 d h.1, h.2, h.3, h.4)

  pub first-tree : (g : Forest (Keyed L)) (q : ℕ) → first_key g ≡ Some q → (m : Keyed L) × (c : Forest (Keyed L)) × (r : Forest (Keyed L)) × (g ≡ Tree m c r) × (m.key ≡ q)
  first-tree Empty q e = absurd (none-some q e)
  first-tree (Tree m c r) q e = (m, c, r, refl, same_Some _ _ e)

  pub path-children : (f : Forest (Keyed L)) (path : List ℕ) (q i : ℕ) → HasDistinctKeys f → key_at f path ≡ Some q → on_path (i ∷ []) (on_path path f) ≡ trees_from i (children_of f q)
  path-children f path q i d e =
      let t = first-tree (on_path path f) q e in
      let s = path-part f None [] 0 path t.0 t.1 t.2 d t.3 in
      let at : spot_of f q ≡ Some s.0 = subst (λ k. spot_of f k ≡ Some s.0) t.4 s.1 in
      rw (t.3, at, s.3) refl

  pub path-live : (f : Forest (Keyed L)) (path : List ℕ) (q : ℕ) → key_at f path ≡ Some q → IsLive f q
  path-live f path q e = counted-live f q (path-counted f 0 path q e)

  pub first-from : (i : ℕ) (g : Forest (Keyed L)) → first_key (trees_from i g) ≡ slice_get (root_keys g) i
  first-from zero Empty = refl
  first-from zero (Tree n c r) = refl
  first-from (suc i) Empty = refl
  first-from (suc i) (Tree n c r) = first-from i r

  -- one step more leads to a child
  pub key_at-child : (f : Forest (Keyed L)) (path : List ℕ) (q i : ℕ) → HasDistinctKeys f → key_at f path ≡ Some q → key_at f (path ++ i ∷ []) ≡ child_of f q i
  key_at-child f path q i d e =
      ap first_key (on_path-append path (i ∷ []) f ∙ path-children f path q i d e) ∙ first-from i (children_of f q)

  no-tree : (g : Forest (Keyed L)) → first_key g ≡ None → g ≡ Empty
  no-tree Empty e = refl
  no-tree (Tree n c r) e = absurd (cc)

  on_nothing : (path : List ℕ) (g : Forest (Keyed L)) → g ≡ Empty → on_path path g ≡ Empty
  on_nothing [] g e = e
  on_nothing (i ∷ path) Empty e = refl
  on_nothing (i ∷ path) (Tree n c r) e = absurd (cc)

  -- past nothing there is nothing
  pub key_at-past : (f : Forest (Keyed L)) (path rest : List ℕ) → key_at f path ≡ None → key_at f (path ++ rest) ≡ None
  key_at-past f path rest e = ap first_key (on_path-append path rest f ∙ on_nothing rest (on_path path f) (no-tree (on_path path f) e))

  -- A node and its parent.

  pub parent-live : (f : Forest (Keyed L)) (q x : ℕ) → HasDistinctKeys f → IsLive f q → parent_of f q ≡ Some x → IsLive f x
  parent-live f q x d h e =
      let s = live-spot f q h in
      elim (stands f None [] 0 0 q s.0 d refl s.1) [
        | as_root r ↦ absurd (none-some x (sym r.parent ∙ (rw s.1 at e)))
        | under y u ↦
            let same : y ≡ x = same_Some y x (sym u.parent ∙ (rw s.1 at e)) in
            subst (λ k. IsLive f k) same (rw u.spot refl)
      ]

  -- the route of a child
  pub route-child : (f : Forest (Keyed L)) (q x : ℕ) → HasDistinctKeys f → IsLive f q → parent_of f q ≡ Some x → route_of f q ≡ route_of f x ++ index_of f q ∷ []
  route-child f q x d h e =
      let s = live-spot f q h in
      elim (stands f None [] 0 0 q s.0 d refl s.1) [
        | as_root r ↦ absurd (none-some x (sym r.parent ∙ (rw s.1 at e)))
        | under y u ↦
            let same : y ≡ x = same_Some y x (sym u.parent ∙ (rw s.1 at e)) in
            let above : route 0 f x ≡ Some u.steps = subst (λ k. route 0 f k ≡ Some u.steps) same u.route_above in
            rw (s.1, u.route, above) refl
      ]

  -- the route of a root
  pub route-of_root : (f : Forest (Keyed L)) (q : ℕ) → HasDistinctKeys f → IsLive f q → parent_of f q ≡ None → route_of f q ≡ index_of f q ∷ []
  route-of_root f q d h e =
      let s = live-spot f q h in
      elim (stands f None [] 0 0 q s.0 d refl s.1) [
        | as_root r ↦ rw (s.1, r.route) refl
        | under y u ↦ absurd (none-some y (sym (rw s.1 at e) ∙ u.parent))
      ]

  -- a node is the child of its parent that its index tells
  pub roots-children : (f : Forest (Keyed L)) (q x : ℕ) (l : L) → HasDistinctKeys f → IsLive f q → parent_of f q ≡ Some x → Some l ≡ label_of f q → roots (children_of f x) ≡ earlier_of f q ++ keyed q l ∷ roots (after_of f q)
  roots-children f q x l d h e is =
      let s = live-spot f q h in
      let same_label : l ≡ s.0.label = same_Some _ _ (rw s.1 at is) in
      elim (stands f None [] 0 0 q s.0 d refl s.1) [
        | as_root r ↦ absurd (none-some x (sym r.parent ∙ (rw s.1 at e)))
        | under y u ↦
            let same : y ≡ x = same_Some y x (sym u.parent ∙ (rw s.1 at e)) in
            let above : spot_of f x ≡ Some u.above = subst (λ k. spot_of f k ≡ Some u.above) same u.spot in
            rw (s.1, above, same_label) u.siblings
      ]
