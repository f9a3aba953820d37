-- Which of two nodes comes first, told by climbing.
use Rattle.std.proofs.Common.{◌≡◌, ◌≢◌, ◌==◌, ◌<◌, ◌≤◌, ◌+◌, ℕ, true, false, cond, nat_lt, List, [], ◌∷◌, ◌++◌, length, take, drop, Option, Some, None, refl, sym, ap, ap₂, ◌∙◌, ◌⊎◌, inl, inr, arith, eqb-true, eq-eqb, length-append, length-take, length-drop, take-append-drop, take-take}
use Rattle.std.proofs.Math.Seq.{take-append_seam}
use Rattle.std.proofs.lemmas.Bool.Decides.{nat_tests}
use Rattle.std.proofs.lemmas.Option.{none-some, same_Some}
use Rattle.forest.specs.Forest.{Forest, Empty, Tree, size}
use Rattle.forest.specs.Keys.{Keyed, HasDistinctKeys}
use Rattle.forest.specs.Spots.{IsLive, parent_of, index_of}
use Rattle.forest.specs.Paths.{route, route_of}
use Rattle.forest.specs.Order.{place_of, comes_before}
use Rattle.forest.proofs.SpotLaws.{chosen, first_found}
use Rattle.forest.proofs.PathLaws.{mapped-some, live-route, same-route, route-child, route-of_root, parent-live, route-path}
use Rattle.forest.proofs.OrderLaws.{place-route}

-- what routes have in common decides nothing
comes_before-common : (xs s t : List ℕ) → comes_before (xs ++ s) (xs ++ t) ≡ comes_before s t
comes_before-common [] s t = refl
comes_before-common (x ∷ xs) s t = rw (eq-eqb x x refl) (comes_before-common xs s t)

-- where they part, what follows decides nothing
comes_before-parted : (xs ys s t : List ℕ) → length xs ≡ length ys → xs ≢ ys → comes_before (xs ++ s) (ys ++ t) ≡ comes_before xs ys
comes_before-parted [] [] s t level other = absurd (other refl)
comes_before-parted [] (y ∷ ys) s t level other = absurd (omega arith)
comes_before-parted (x ∷ xs) [] s t level other = absurd (omega arith)
comes_before-parted (x ∷ xs) (y ∷ ys) s t level other =
    elim (x == y) as (λ b. (x == y) ≡ b → cond b (comes_before (xs ++ s) (ys ++ t)) (nat_lt x y) ≡ cond b (comes_before xs ys) (nat_lt x y)) [
      | true ↦ λ is. comes_before-parted xs ys s t (omega arith) (λ e. other (ap₂ (λ z zs. z ∷ zs) (eqb-true x y is) e))
      | false ↦ λ is. refl
    ] refl

comes_before-last : (x y : ℕ) → comes_before (x ∷ []) (y ∷ []) ≡ nat_lt x y
comes_before-last x y = grind (arith, nat_tests)

comes_before-rest : (s t : List ℕ) → (length s ≡ 0) ⊎ (length t ≡ 0) → comes_before s t ≡ nat_lt (length s) (length t)
comes_before-rest [] [] one = refl
comes_before-rest [] (y ∷ t) one = grind (arith, nat_tests)
comes_before-rest (x ∷ s) [] one = grind (arith, nat_tests)
comes_before-rest (x ∷ s) (y ∷ t) (inl e) = absurd (omega arith)
comes_before-rest (x ∷ s) (y ∷ t) (inr e) = absurd (omega arith)

module _ {L : Type 0} where
  -- a node is in fewer nodes than there are
  route-length : (f : Forest (Keyed L)) (i q : ℕ) (steps : List ℕ) → route i f q ≡ Some steps → length steps ≤ size f
  route-length Empty i q steps is = absurd (none-some steps is)
  route-length (Tree n c r) i q steps is =
      elim (chosen (n.key == q) _ _ _ is) [
        | inl h ↦ omega (arith, ap length (same_Some _ _ h.1))
        | inr h ↦ elim (first_found _ _ steps h.1) [
          | inl a ↦ let m = mapped-some (λ (xs : List ℕ). i ∷ xs) (route 0 c q) steps a in omega (arith, ap length m.2, route-length c 0 q m.0 m.1)
          | inr b ↦ omega (arith, route-length r (i + 1) q steps b.1)
        ]
      ]

  pub length-route : (f : Forest (Keyed L)) (q : ℕ) → IsLive f q → length (route_of f q) ≤ size f
  length-route f q h = route-length f 0 q (route_of f q) (live-route f q h)

  pub place-comes : (f : Forest (Keyed L)) (a b : ℕ) → HasDistinctKeys f → IsLive f a → IsLive f b → nat_lt (place_of f a) (place_of f b) ≡ comes_before (route_of f a) (route_of f b)
  place-comes f a b d live_a live_b = place-route f 0 a b (route_of f a) (route_of f b) d (live-route f a live_a) (live-route f b live_b)

  pub same-route_of : (f : Forest (Keyed L)) (a b : ℕ) → IsLive f a → IsLive f b → route_of f a ≡ route_of f b → a ≡ b
  same-route_of f a b live_a live_b e = same-route f 0 a b (route_of f b) (live-route f a live_a ∙ ap (λ xs. Some xs) e) (live-route f b live_b)

  -- two nodes of one depth with different parents stand as their parents do
  pub comes-parents : (f : Forest (Keyed L)) (a b x y : ℕ) → HasDistinctKeys f → IsLive f a → IsLive f b → parent_of f a ≡ Some x → parent_of f b ≡ Some y → x ≢ y → length (route_of f a) ≡ length (route_of f b) → comes_before (route_of f a) (route_of f b) ≡ comes_before (route_of f x) (route_of f y)
  comes-parents f a b x y d live_a live_b above_a above_b other level =
      let ra = route-child f a x d live_a above_a in
      let rb = route-child f b y d live_b above_b in
      let la = length-append (route_of f x) (index_of f a ∷ []) in
      let lb = length-append (route_of f y) (index_of f b ∷ []) in
      let ea = ap length ra in
      let eb = ap length rb in
      ap₂ comes_before ra rb
      ∙ comes_before-parted (route_of f x) (route_of f y) (index_of f a ∷ []) (index_of f b ∷ []) (omega arith)
      (λ e. other (same-route_of f x y (parent-live f a x d live_a above_a) (parent-live f b y d live_b above_b) e))

  -- two siblings stand as their positions do
  pub comes-siblings : (f : Forest (Keyed L)) (a b : ℕ) → HasDistinctKeys f → IsLive f a → IsLive f b → parent_of f a ≡ parent_of f b → comes_before (route_of f a) (route_of f b) ≡ nat_lt (index_of f a) (index_of f b)
  comes-siblings f a b d live_a live_b same =
      elim (parent_of f b) as (λ (o : Option ℕ). parent_of f b ≡ o → comes_before (route_of f a) (route_of f b) ≡ nat_lt (index_of f a) (index_of f b)) [
        | None ↦ λ e. ap₂ comes_before (route-of_root f a d live_a (same ∙ e)) (route-of_root f b d live_b e) ∙ comes_before-last (index_of f a) (index_of f b)
        | Some x ↦ λ e. ap₂ comes_before (route-child f a x d live_a (same ∙ e)) (route-child f b x d live_b e) ∙ comes_before-common (route_of f x) (index_of f a ∷ []) (index_of f b ∷ []) ∙ comes_before-last (index_of f a) (index_of f b)
      ] refl

  -- two nodes stand as what they are in at a common depth; where that is one node, the less deep is it
  pub comes-level : (f : Forest (Keyed L)) (a b x y n : ℕ) → IsLive f x → IsLive f y → route_of f x ≡ take n (route_of f a) → route_of f y ≡ take n (route_of f b) → n ≤ length (route_of f a) → n ≤ length (route_of f b) → x ≢ y → comes_before (route_of f a) (route_of f b) ≡ comes_before (route_of f x) (route_of f y)
  comes-level f a b x y n live_x live_y rx ry deep_a deep_b other =
      ap₂ comes_before (sym (take-append-drop n (route_of f a)) ∙ ap (λ xs. xs ++ drop n (route_of f a)) (sym rx)) (sym (take-append-drop n (route_of f b)) ∙ ap (λ xs. xs ++ drop n (route_of f b)) (sym ry))
      ∙ comes_before-parted (route_of f x) (route_of f y) (drop n (route_of f a)) (drop n (route_of f b))
      (omega (arith, ap length rx, ap length ry, length-take n (route_of f a), length-take n (route_of f b)))
      (λ e. other (same-route_of f x y live_x live_y e))

  pub comes-within : (f : Forest (Keyed L)) (a b x n : ℕ) → route_of f x ≡ take n (route_of f a) → route_of f x ≡ take n (route_of f b) → (length (route_of f a) ≡ n) ⊎ (length (route_of f b) ≡ n) → n ≤ length (route_of f a) → n ≤ length (route_of f b) → comes_before (route_of f a) (route_of f b) ≡ nat_lt (length (route_of f a)) (length (route_of f b))
  comes-within f a b x n rx ry one deep_a deep_b =
      let la = length-drop n (route_of f a) in
      let lb = length-drop n (route_of f b) in
      ap₂ comes_before (sym (take-append-drop n (route_of f a)) ∙ ap (λ xs. xs ++ drop n (route_of f a)) (sym rx)) (sym (take-append-drop n (route_of f b)) ∙ ap (λ xs. xs ++ drop n (route_of f b)) (sym ry))
      ∙ comes_before-common (route_of f x) (drop n (route_of f a)) (drop n (route_of f b))
      ∙ comes_before-rest (drop n (route_of f a)) (drop n (route_of f b)) (elim one [ inl e ↦ inl (omega arith) | inr e ↦ inr (omega arith) ])
      ∙ grind (arith, nat_tests)

  pub route-some : (f : Forest (Keyed L)) (q : ℕ) → IsLive f q → 0 < length (route_of f q)
  route-some f q h =
      let r = route-path f 0 q (route_of f q) (live-route f q h) in
      omega (arith, ap length r.2)

  -- a root is in itself alone
  pub root-level : (f : Forest (Keyed L)) (q : ℕ) → HasDistinctKeys f → IsLive f q → parent_of f q ≡ None → length (route_of f q) ≡ 1
  root-level f q d h e = ap length (route-of_root f q d h e)

  pub child-level : (f : Forest (Keyed L)) (q x : ℕ) → HasDistinctKeys f → IsLive f q → parent_of f q ≡ Some x → length (route_of f q) ≡ length (route_of f x) + 1
  child-level f q x d h e = omega (arith, ap length (route-child f q x d h e), length-append (route_of f x) (index_of f q ∷ []))

  -- a step up leaves off the last position
  pub step-up : (f : Forest (Keyed L)) (q x n : ℕ) (way : List ℕ) → HasDistinctKeys f → IsLive f q → parent_of f q ≡ Some x → route_of f q ≡ take (n + 1) way → n + 1 ≤ length way → route_of f x ≡ take n way
  step-up f q x n way d h e is long =
      let its : length (route_of f x) ≡ n = omega (arith, child-level f q x d h e, ap length is, length-take (n + 1) way) in
      sym (take-append_seam (route_of f x) (index_of f q ∷ []))
      ∙ ap₂ take its (sym (route-child f q x d h e) ∙ is)
      ∙ take-take n (n + 1) way (omega arith)
