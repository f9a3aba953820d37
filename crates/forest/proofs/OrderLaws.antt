-- Tree order: by place, by route, and from one node to the next.
use Rattle.std.proofs.Common.{◌≡◌, ◌==◌, ◌<◌, ◌+◌, ℕ, true, false, cond, not, nat_lt, List, [], ◌∷◌, ◌++◌, length, Some, refl, sym, ap, ◌∙◌, inl, inr, arith, eqb-true, eq-eqb, length-append}
use Rattle.std.specs.List.{position_or_len}
use Rattle.std.proofs.lemmas.Option.{none-some, same_Some}
use Rattle.std.proofs.lemmas.Bool.Decides.{nat_tests}
use Rattle.std.proofs.lemmas.List.{map-append}
use Rattle.std.proofs.lemmas.List.Folds.{prefix_len-append}
use Rattle.forest.specs.Forest.{Forest, Empty, Tree, size, labels}
use Rattle.forest.specs.Keys.{Keyed, keys, times, HasDistinctKeys}
use Rattle.forest.specs.Paths.{route}
use Rattle.forest.specs.Order.{place_of, comes_before}
use Rattle.forest.proofs.SpotLaws.{chosen, first_found, distinct-parts, below-or-after, not-root, some_or_none}
use Rattle.forest.proofs.PathLaws.{route-path, route-counted, mapped-some}

module _ {L : Type 0} where
  pub keys-tree : (n : Keyed L) (c r : Forest (Keyed L)) → keys (Tree n c r) ≡ n.key ∷ (keys c ++ keys r)
  keys-tree n c r = ap (λ ks. n.key ∷ ks) (map-append (λ (m : Keyed L). m.key) (labels c) (labels r))

  pub length-keys : (f : Forest (Keyed L)) → length (keys f) ≡ size f
  length-keys Empty = refl
  length-keys (Tree n c r) = omega (arith, ap length (keys-tree n c r), length-append (keys c) (keys r), length-keys c, length-keys r)

  -- the place in a tree
  place-tree : (n : Keyed L) (c r : Forest (Keyed L)) (q : ℕ) → (n.key == q) ≡ false → place_of (Tree n c r) q ≡ 1 + cond (place_of c q == size c) (size c + place_of r q) (place_of c q)
  place-tree n c r q h =
      ap (λ ks. position_or_len (λ k. k == q) ks) (keys-tree n c r)
      ∙ rw h (ap (λ k. 1 + k) (prefix_len-append (λ k. not (k == q)) (keys c) (keys r) ∙ ap (λ k. cond (place_of c q == k) (k + place_of r q) (place_of c q)) (length-keys c)))

  place-absent : (f : Forest (Keyed L)) (q : ℕ) → times q f ≡ 0 → place_of f q ≡ size f
  place-absent Empty q h = refl
  place-absent (Tree n c r) q h =
      let other : (n.key == q) ≡ false = elim (n.key == q) as (λ b. cond b 1 0 + (times q c + times q r) ≡ 0 → b ≡ false) [ true ↦ λ h. absurd (omega arith) | false ↦ λ h. refl ] h in
      place-tree n c r q other ∙ rw (place-absent c q (omega arith), place-absent r q (omega arith), eq-eqb (size c) (size c) refl) (omega arith)

  pub place-root : (n : Keyed L) (c r : Forest (Keyed L)) (q : ℕ) → n.key ≡ q → place_of (Tree n c r) q ≡ 0
  place-root n c r q key = ap (λ ks. position_or_len (λ k. k == q) ks) (keys-tree n c r) ∙ rw (eq-eqb n.key q key) refl

  place-in : (n : Keyed L) (c r : Forest (Keyed L)) (q : ℕ) → (n.key == q) ≡ false → place_of c q < size c → place_of (Tree n c r) q ≡ 1 + place_of c q
  place-in n c r q other lt = place-tree n c r q other ∙ grind (arith, nat_tests)

  place-behind : (n : Keyed L) (c r : Forest (Keyed L)) (q : ℕ) → (n.key == q) ≡ false → times q c ≡ 0 → place_of (Tree n c r) q ≡ 1 + (size c + place_of r q)
  place-behind n c r q other none = place-tree n c r q other ∙ rw (place-absent c q none, eq-eqb (size c) (size c) refl) refl

  pub place-within : (f : Forest (Keyed L)) (q : ℕ) → 0 < times q f → place_of f q < size f
  place-within Empty q h = absurd (omega arith)
  place-within (Tree n c r) q h =
      elim (n.key == q) as (λ b. (n.key == q) ≡ b → 0 < cond b 1 0 + (times q c + times q r) → place_of (Tree n c r) q < size (Tree n c r)) [
        | true ↦ λ is h. omega (arith, place-root n c r q (eqb-true n.key q is))
        | false ↦ λ is h. elim (some_or_none (times q c)) [
          | inl z ↦ omega (arith, place-behind n c r q is z, place-within r q (omega arith))
          | inr z ↦ let lt : place_of c q < size c = place-within c q z in omega (arith, place-in n c r q is lt)
        ]
      ] refl h

  pub place-below : (n : Keyed L) (c r : Forest (Keyed L)) (q : ℕ) → HasDistinctKeys (Tree n c r) → 0 < times q c → place_of (Tree n c r) q ≡ 1 + place_of c q
  place-below n c r q d h = place-in n c r q (not-root n c r q d (omega arith)) (place-within c q h)

  pub place-beside : (n : Keyed L) (c r : Forest (Keyed L)) (q : ℕ) → HasDistinctKeys (Tree n c r) → 0 < times q r → place_of (Tree n c r) q ≡ 1 + (size c + place_of r q)
  place-beside n c r q d h = place-behind n c r q (not-root n c r q d (omega arith)) (below-or-after n c r q d h)

same-test : (x : ℕ) → (x == x) ≡ true
same-test x = eq-eqb x x refl

lt-test : (x y : ℕ) → x < y → ((x == y) ≡ false) × (nat_lt x y ≡ true) × ((y == x) ≡ false) × (nat_lt y x ≡ false)
lt-test x y h = (grind (arith, nat_tests), grind (arith, nat_tests), grind (arith, nat_tests), grind (arith, nat_tests))

more : (x y : ℕ) → nat_lt (1 + x) (1 + y) ≡ nat_lt x y
more x y = grind (arith, nat_tests)

shifted : (s x y : ℕ) → nat_lt (1 + (s + x)) (1 + (s + y)) ≡ nat_lt x y
shifted s x y = grind (arith, nat_tests)

module _ {L : Type 0} where
  -- what the place and the route of a node say together
  record IsInside (i : ℕ) (c : Forest (Keyed L)) (q at : ℕ) (way : List ℕ) : Type 0 where
    first : ℕ
    rest : List ℕ
    place : at ≡ 1 + place_of c q
    within : place_of c q < size c
    below : route 0 c q ≡ Some (first ∷ rest)
    steps : way ≡ i ∷ (first ∷ rest)

  record IsBehind (i : ℕ) (c r : Forest (Keyed L)) (q at : ℕ) (way : List ℕ) : Type 0 where
    first : ℕ
    rest : List ℕ
    place : at ≡ 1 + (size c + place_of r q)
    after : route (i + 1) r q ≡ Some way
    steps : way ≡ first ∷ rest
    later : i < first

  data Standing (i : ℕ) (c r : Forest (Keyed L)) (q place : ℕ) (steps : List ℕ) : Type 0 where
    is_root : place ≡ 0 → steps ≡ i ∷ [] → Standing i c r q place steps
    is_inside : IsInside i c q place steps → Standing i c r q place steps
    is_behind : IsBehind i c r q place steps → Standing i c r q place steps

  standing : (n : Keyed L) (c r : Forest (Keyed L)) (i q : ℕ) (steps : List ℕ) → HasDistinctKeys (Tree n c r) → route i (Tree n c r) q ≡ Some steps → Standing i c r q (place_of (Tree n c r) q) steps
  standing n c r i q steps d is =
      elim (chosen (n.key == q) _ _ _ is) [
        | inl h ↦ is_root (place-root n c r q (eqb-true n.key q h.0)) (sym (same_Some _ _ h.1))
        | inr h ↦ elim (first_found _ _ steps h.1) [
          | inl a ↦
              let m = mapped-some (λ (xs : List ℕ). i ∷ xs) (route 0 c q) steps a in
              let b = route-path c 0 q m.0 m.1 in
              let there : 0 < times q c = route-counted c 0 q m.0 m.1 in
              is_inside (record {
                first = 0 + b.0;
                rest = b.1;
                place = place-below n c r q d there;
                within = place-within c q there;
                below = m.1 ∙ ap (λ xs. Some xs) b.2;
                steps = sym m.2 ∙ ap (λ xs. i ∷ xs) b.2;
              })
          | inr b ↦
              let h = route-path r (i + 1) q steps b.1 in
              let there : 0 < times q r = route-counted r (i + 1) q steps b.1 in
              is_behind (record {
                first = i + 1 + h.0;
                rest = h.1;
                place = place-beside n c r q d there;
                after = b.1;
                steps = h.2;
                later = omega arith;
              })
        ]
      ]

  compared : (i : ℕ) (c r : Forest (Keyed L)) (a b x y : ℕ) (xs ys : List ℕ)
      → ((first second : List ℕ) → route 0 c a ≡ Some first → route 0 c b ≡ Some second → nat_lt (place_of c a) (place_of c b) ≡ comes_before first second)
      → ((first second : List ℕ) → route (i + 1) r a ≡ Some first → route (i + 1) r b ≡ Some second → nat_lt (place_of r a) (place_of r b) ≡ comes_before first second)
      → Standing i c r a x xs → Standing i c r b y ys → nat_lt x y ≡ comes_before xs ys
  compared i c r a b x y xs ys in_c in_r (is_root px sx) (is_root py sy) = rw (px, py, sx, sy, same-test i) refl
  compared i c r a b x y xs ys in_c in_r (is_root px sx) (is_inside h) = rw (px, h.place, sx, h.steps, same-test i) (lt-test 0 (1 + place_of c b) (omega arith)).1
  compared i c r a b x y xs ys in_c in_r (is_root px sx) (is_behind h) =
      let t = lt-test i h.first h.later in
      rw (px, h.place, sx, h.steps, t.0, t.1) (lt-test 0 (1 + (size c + place_of r b)) (omega arith)).1
  compared i c r a b x y xs ys in_c in_r (is_inside g) (is_root py sy) = rw (g.place, py, g.steps, sy, same-test i) (lt-test 0 (1 + place_of c a) (omega arith)).3
  compared i c r a b x y xs ys in_c in_r (is_inside g) (is_inside h) =
      rw (g.place, h.place, g.steps, h.steps, same-test i) (more (place_of c a) (place_of c b) ∙ in_c _ _ g.below h.below)
  compared i c r a b x y xs ys in_c in_r (is_inside g) (is_behind h) =
      let t = lt-test i h.first h.later in
      rw (g.place, h.place, g.steps, h.steps, t.0, t.1) (lt-test (1 + place_of c a) (1 + (size c + place_of r b)) (omega (arith, g.within))).1
  compared i c r a b x y xs ys in_c in_r (is_behind g) (is_root py sy) =
      let t = lt-test i g.first g.later in
      rw (g.place, py, g.steps, sy, t.2, t.3) (lt-test 0 (1 + (size c + place_of r a)) (omega arith)).3
  compared i c r a b x y xs ys in_c in_r (is_behind g) (is_inside h) =
      let t = lt-test i g.first g.later in
      rw (g.place, h.place, g.steps, h.steps, t.2, t.3) (lt-test (1 + place_of c b) (1 + (size c + place_of r a)) (omega (arith, h.within))).3
  compared i c r a b x y xs ys in_c in_r (is_behind g) (is_behind h) =
      rw (g.place, h.place) (shifted (size c) (place_of r a) (place_of r b) ∙ in_r xs ys g.after h.after)

  -- nodes stand in tree order as their routes do
  pub place-route : (f : Forest (Keyed L)) (i a b : ℕ) (first second : List ℕ) → HasDistinctKeys f → route i f a ≡ Some first → route i f b ≡ Some second → nat_lt (place_of f a) (place_of f b) ≡ comes_before first second
  place-route Empty i a b first second d at_a at_b = absurd (none-some first at_a)
  place-route (Tree n c r) i a b first second d at_a at_b =
      let parts = distinct-parts n c r d in
      compared i c r a b _ _ first second
      (λ xs ys in_a in_b. place-route c 0 a b xs ys parts.0 in_a in_b)
      (λ xs ys in_a in_b. place-route r (i + 1) a b xs ys parts.1 in_a in_b)
      (standing n c r i a first d at_a) (standing n c r i b second d at_b)
