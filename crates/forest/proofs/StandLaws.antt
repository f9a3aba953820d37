-- How a node stands to its parent: among its siblings, on its way from the roots, and in tree order.
use Rattle.std.proofs.Common.{◌≡◌, ◌==◌, ◌<◌, ◌+◌, ℕ, true, false, cond, if◌then◌else◌, List, [], ◌∷◌, ◌++◌, length, Option, Some, None, option_map, refl, sym, ap, ◌∙◌, inl, inr, arith, eqb-true, eq-eqb, append_assoc, length-append}
use Rattle.std.specs.Option.{option_or}
use Rattle.std.proofs.lemmas.Option.{none-some, same_Some}
use Rattle.forest.specs.Forest.{Forest, Empty, Tree}
use Rattle.forest.specs.Keys.{Keyed, times, HasDistinctKeys}
use Rattle.forest.specs.Spots.{Spot, keyed, roots, spot}
use Rattle.forest.specs.Paths.{route}
use Rattle.forest.proofs.SpotLaws.{chosen, first_found, spot-counted, distinct-parts, below-or-after, not-root, the_spot, spot-root, spot-below, spot-beside}

-- the labels in tree order, each with its depth
abbrev pub with_depths : {L : Type 0} → ℕ → Forest L → List (ℕ × L)
with_depths depth Empty = []
with_depths depth (Tree label children after) = (depth, label) ∷ (with_depths (depth + 1) children ++ with_depths depth after)

pub or_none : {A : Type 0} (o : Option A) → option_or o None ≡ o
or_none None = refl
or_none (Some a) = refl

module _ {L : Type 0} where
  -- those after the tree of a node
  abbrev pub follow : ℕ → Forest (Keyed L) → ℕ → Option (List (ℕ × Keyed L))
  follow depth Empty key = None
  follow depth (Tree node children after) key =
      if node.key == key then Some (with_depths depth after)
      else option_or (option_map (λ inside. inside ++ with_depths depth after) (follow (depth + 1) children key)) (follow depth after key)

  pub route-absent : (f : Forest (Keyed L)) (i q : ℕ) → times q f ≡ 0 → route i f q ≡ None
  route-absent Empty i q h = refl
  route-absent (Tree n c r) i q h =
      elim (n.key == q) as (λ b. cond b 1 0 + (times q c + times q r) ≡ 0 → cond b (Some (i ∷ [])) (option_or (option_map (λ steps. i ∷ steps) (route 0 c q)) (route (i + 1) r q)) ≡ None) [
        | true ↦ λ h. absurd (omega arith)
        | false ↦ λ h. rw (route-absent c 0 q (omega arith), route-absent r (i + 1) q (omega arith)) refl
      ] h

  pub follow-absent : (f : Forest (Keyed L)) (d q : ℕ) → times q f ≡ 0 → follow d f q ≡ None
  follow-absent Empty d q h = refl
  follow-absent (Tree n c r) d q h =
      elim (n.key == q) as (λ b. cond b 1 0 + (times q c + times q r) ≡ 0 → cond b (Some (with_depths d r)) (option_or (option_map (λ inside. inside ++ with_depths d r) (follow (d + 1) c q)) (follow d r q)) ≡ None) [
        | true ↦ λ h. absurd (omega arith)
        | false ↦ λ h. rw (follow-absent c (d + 1) q (omega arith), follow-absent r d q (omega arith)) refl
      ] h

  pub route-root : (i : ℕ) (n : Keyed L) (c r : Forest (Keyed L)) → route i (Tree n c r) n.key ≡ Some (i ∷ [])
  route-root i n c r = rw (eq-eqb n.key n.key refl) refl

  pub route-below : (i : ℕ) (n : Keyed L) (c r : Forest (Keyed L)) (q : ℕ) (steps : List ℕ) → HasDistinctKeys (Tree n c r) → 0 < times q c → route 0 c q ≡ Some steps → route i (Tree n c r) q ≡ Some (i ∷ steps)
  route-below i n c r q steps d h is = rw (not-root n c r q d (omega arith), is) refl

  pub route-beside : (i : ℕ) (n : Keyed L) (c r : Forest (Keyed L)) (q : ℕ) → HasDistinctKeys (Tree n c r) → 0 < times q r → route i (Tree n c r) q ≡ route (i + 1) r q
  route-beside i n c r q d h = rw (not-root n c r q d (omega arith), route-absent c 0 q (below-or-after n c r q d h)) refl

  pub follow-root : (d : ℕ) (n : Keyed L) (c r : Forest (Keyed L)) → follow d (Tree n c r) n.key ≡ Some (with_depths d r)
  follow-root d n c r = rw (eq-eqb n.key n.key refl) refl

  pub follow-below : (d : ℕ) (n : Keyed L) (c r : Forest (Keyed L)) (q : ℕ) (rest : List (ℕ × Keyed L)) → HasDistinctKeys (Tree n c r) → 0 < times q c → follow (d + 1) c q ≡ Some rest → follow d (Tree n c r) q ≡ Some (rest ++ with_depths d r)
  follow-below d n c r q rest dis h is = rw (not-root n c r q dis (omega arith), is) refl

  pub follow-beside : (d : ℕ) (n : Keyed L) (c r : Forest (Keyed L)) (q : ℕ) → HasDistinctKeys (Tree n c r) → 0 < times q r → follow d (Tree n c r) q ≡ follow d r q
  follow-beside d n c r q dis h = rw (not-root n c r q dis (omega arith), follow-absent c (d + 1) q (below-or-after n c r q dis h)) refl

  -- a root, where the first root of the forest has these siblings before it, is at this position, and has this depth
  pub record StandsAsRoot (p : Option ℕ) (e : List (Keyed L)) (i d : ℕ) (f : Forest (Keyed L)) (q : ℕ) (s : Spot L) : Type 0 where
    pub parent : s.parent ≡ p
    pub siblings : e ++ roots f ≡ s.earlier ++ keyed q s.label ∷ roots s.after
    pub route : route i f q ≡ Some (length s.earlier ∷ [])
    pub follow : follow d f q ≡ Some (with_depths d s.after)

  -- a child of a node
  pub record StandsUnder (p : Option ℕ) (e : List (Keyed L)) (i d : ℕ) (f : Forest (Keyed L)) (q : ℕ) (s : Spot L) (x : ℕ) : Type 0 where
    pub above : Spot L
    pub steps : List ℕ
    pub rest : List (ℕ × Keyed L)
    pub parent : s.parent ≡ Some x
    pub spot : spot p e f x ≡ Some above
    pub siblings : roots above.children ≡ s.earlier ++ keyed q s.label ∷ roots s.after
    pub route_above : route i f x ≡ Some steps
    pub route : route i f q ≡ Some (steps ++ length s.earlier ∷ [])
    pub follow_above : follow d f x ≡ Some rest
    pub follow : follow d f q ≡ Some (with_depths (d + length steps) s.after ++ rest)

  pub data Stands (p : Option ℕ) (e : List (Keyed L)) (i d : ℕ) (f : Forest (Keyed L)) (q : ℕ) (s : Spot L) : Type 0 where
    as_root : StandsAsRoot p e i d f q s → Stands p e i d f q s
    under : (x : ℕ) → StandsUnder p e i d f q s x → Stands p e i d f q s

  stands-root : (p : Option ℕ) (e : List (Keyed L)) (i d : ℕ) (n : Keyed L) (c r : Forest (Keyed L)) (q : ℕ) (s : Spot L) → length e ≡ i → n.key ≡ q → the_spot p e n.label c r ≡ s → StandsAsRoot p e i d (Tree n c r) q s
  stands-root p e i d n c r q s at key is =
      rw (← is, ← key) (record {
        parent = refl;
        siblings = refl;
        route = rw at (route-root i n c r);
        follow = follow-root d n c r;
      })

  stands-below : (p : Option ℕ) (e : List (Keyed L)) (i d : ℕ) (n : Keyed L) (c r : Forest (Keyed L)) (q : ℕ) (s : Spot L) → HasDistinctKeys (Tree n c r) → spot (Some n.key) [] c q ≡ Some s → Stands (Some n.key) [] 0 (d + 1) c q s → Stands p e i d (Tree n c r) q s
  stands-below p e i d n c r q s dis is (as_root h) =
      let there : 0 < times q c = spot-counted c (Some n.key) [] q s is in
      under n.key (record {
        above = the_spot p e n.label c r;
        steps = i ∷ [];
        rest = with_depths d r;
        parent = h.parent;
        spot = spot-root p e n c r;
        siblings = h.siblings;
        route_above = route-root i n c r;
        route = route-below i n c r q _ dis there h.route;
        follow_above = follow-root d n c r;
        follow = follow-below d n c r q _ dis there h.follow;
      })
  stands-below p e i d n c r q s dis is (under x h) =
      let there : 0 < times q c = spot-counted c (Some n.key) [] q s is in
      let above : 0 < times x c = spot-counted c (Some n.key) [] x h.above h.spot in
      let deeper : d + 1 + length h.steps ≡ d + length (i ∷ h.steps) = omega arith in
      under x (record {
        above = h.above;
        steps = i ∷ h.steps;
        rest = h.rest ++ with_depths d r;
        parent = h.parent;
        spot = spot-below p e n c r x h.above dis h.spot;
        siblings = h.siblings;
        route_above = route-below i n c r x h.steps dis above h.route_above;
        route = route-below i n c r q _ dis there h.route;
        follow_above = follow-below d n c r x h.rest dis above h.follow_above;
        follow = follow-below d n c r q _ dis there h.follow ∙ ap (λ all. Some all) (append_assoc (with_depths (d + 1 + length h.steps) s.after) h.rest (with_depths d r) ∙ ap (λ depth. with_depths depth s.after ++ (h.rest ++ with_depths d r)) deeper);
      })

  stands-beside : (p : Option ℕ) (e : List (Keyed L)) (i d : ℕ) (n : Keyed L) (c r : Forest (Keyed L)) (q : ℕ) (s : Spot L) → HasDistinctKeys (Tree n c r) → spot p (e ++ n ∷ []) r q ≡ Some s → Stands p (e ++ n ∷ []) (i + 1) d r q s → Stands p e i d (Tree n c r) q s
  stands-beside p e i d n c r q s dis is (as_root h) =
      let there : 0 < times q r = spot-counted r p (e ++ n ∷ []) q s is in
      as_root (record {
        parent = h.parent;
        siblings = sym (append_assoc e (n ∷ []) (roots r)) ∙ h.siblings;
        route = route-beside i n c r q dis there ∙ h.route;
        follow = follow-beside d n c r q dis there ∙ h.follow;
      })
  stands-beside p e i d n c r q s dis is (under x h) =
      let there : 0 < times q r = spot-counted r p (e ++ n ∷ []) q s is in
      let above : 0 < times x r = spot-counted r p (e ++ n ∷ []) x h.above h.spot in
      under x (record {
        above = h.above;
        steps = h.steps;
        rest = h.rest;
        parent = h.parent;
        spot = spot-beside p e n c r x h.above dis h.spot;
        siblings = h.siblings;
        route_above = route-beside i n c r x dis above ∙ h.route_above;
        route = route-beside i n c r q dis there ∙ h.route;
        follow_above = follow-beside d n c r x dis above ∙ h.follow_above;
        follow = follow-beside d n c r q dis there ∙ h.follow;
      })

  pub stands : (f : Forest (Keyed L)) (p : Option ℕ) (e : List (Keyed L)) (i d q : ℕ) (s : Spot L) → HasDistinctKeys f → length e ≡ i → spot p e f q ≡ Some s → Stands p e i d f q s
  stands Empty p e i d q s dis at is = absurd (none-some s is)
  stands (Tree n c r) p e i d q s dis at is =
      let parts = distinct-parts n c r dis in
      elim (chosen (n.key == q) _ _ _ is) [
        | inl h ↦ as_root (stands-root p e i d n c r q s at (eqb-true n.key q h.0) (same_Some _ _ h.1))
        | inr h ↦ elim (first_found _ _ s h.1) [
          | inl a ↦ stands-below p e i d n c r q s dis a (stands c (Some n.key) [] 0 (d + 1) q s parts.0 refl a)
          | inr b ↦ stands-beside p e i d n c r q s dis b.1 (stands r p (e ++ n ∷ []) (i + 1) d q s parts.1 (omega (arith, length-append e (n ∷ []))) b.1)
        ]
      ]
