-- A merge where elements are turned: its forests, its shape, and its stops. Throughout, n is a node, c what is under it, r
-- what is after it, m a merge, p which keys are turned, k and q keys.
use Rattle.std.proofs.Common.{◌≡◌, ◌==◌, ◌<◌, ◌+◌, ◌&&◌, ◌||◌, ◌⊎◌, ℕ, Bool, true, false, cond, [], ◌∷◌, Some, None, refl, sym, ap, ◌∙◌, inl, inr, arith, eq-eqb, eqb-true}
use Rattle.std.specs.Prelude.{option_map}
use Rattle.std.specs.Option.{option_or}
use Rattle.std.proofs.lemmas.Bool.{and_parts, and_right, cases_Bool, or_left, or_right}
use Rattle.forest.specs.Forest.{Forest, Empty, Tree}
use Rattle.forest.specs.Keys.{Keyed, times}
use Rattle.merged_walk.specs.Merges.{Merge, End, Kept, Turned, Gone, Come, has_place, new_of, old_of}
use Rattle.surroundings.specs.MergedLevels.{AreAllLed, HasLeaves}
use Rattle.start_reach.specs.TurnedElements.{stays, turned_where, way_in}

pub key-flipped : (a b : ℕ) → (a == b) ≡ (b == a)
key-flipped a b = elim (cases_Bool (a == b)) [
  | inl is ↦ is ∙ sym (eq-eqb b a (sym (eqb-true a b is)))
  | inr not ↦ elim (cases_Bool (b == a)) [
    | inl is ↦ absurd (let never : true ≡ false = sym (eq-eqb a b (sym (eqb-true b a is))) ∙ not in cc)
    | inr is ↦ not ∙ sym is
  ]
]

module _ {L : Type 0} (is_element : L → Bool) where
  -- a node that is kept, turned by a test or not
  abbrev pub at_node : Bool → Keyed L → (c r : Merge L) → Merge L
  at_node b n c r = cond b (Turned n n c r) (Kept n c r)

  module _ (p : ℕ → Bool) where
    abbrev turned : Merge L → Merge L
    turned m = turned_where is_element p m

    -- The forests are the merge's.

    old-node : (b : Bool) (n : Keyed L) (c r : Merge L) → old_of (at_node b n c r) ≡ Tree n (old_of c) (old_of r)
    old-node true n c r = refl
    old-node false n c r = refl

    new-node : (b : Bool) (n : Keyed L) (c r : Merge L) → new_of (at_node b n c r) ≡ Tree n (new_of c) (new_of r)
    new-node true n c r = refl
    new-node false n c r = refl

    pub old-turned : (m : Merge L) → old_of (turned m) ≡ old_of m
    old-turned End = refl
    old-turned (Kept n c r) =
        let below = old-turned c in let beside = old-turned r in old-node (is_element n.label && p n.key) n (turned c) (turned r) ∙ (λ x. Tree n (below x) (beside x))
    old-turned (Turned was n c r) = let below = old-turned c in let beside = old-turned r in λ x. Tree was (below x) (beside x)
    old-turned (Gone n c r) = ap (Tree n c) (old-turned r)
    old-turned (Come n c r) = old-turned r

    pub new-turned : (m : Merge L) → new_of (turned m) ≡ new_of m
    new-turned End = refl
    new-turned (Kept n c r) =
        let below = new-turned c in let beside = new-turned r in new-node (is_element n.label && p n.key) n (turned c) (turned r) ∙ (λ x. Tree n (below x) (beside x))
    new-turned (Turned was n c r) = let below = new-turned c in let beside = new-turned r in λ x. Tree n (below x) (beside x)
    new-turned (Gone n c r) = new-turned r
    new-turned (Come n c r) = ap (Tree n c) (new-turned r)

    -- A walk may go over it.

    place-node : (b : Bool) (n : Keyed L) (c r : Merge L) → (has_place c || has_place r) ≡ true → has_place (at_node b n c r) ≡ true
    place-node true n c r h = refl
    place-node false n c r h = h

    either-place : (a b x y : Bool) → (a ≡ true → x ≡ true) → (b ≡ true → y ≡ true) → (a || b) ≡ true → (x || y) ≡ true
    either-place true b x y f g h = or_left x y (f refl)
    either-place false b x y f g h = or_right x y (g h)

    pub place-turned : (m : Merge L) → has_place m ≡ true → has_place (turned m) ≡ true
    place-turned End h = h
    place-turned (Kept n c r) h =
        place-node (is_element n.label && p n.key) n (turned c) (turned r)
        (either-place (has_place c) (has_place r) (has_place (turned c)) (has_place (turned r)) (place-turned c) (place-turned r) h)
    place-turned (Turned was n c r) h = refl
    place-turned (Gone n c r) h = refl
    place-turned (Come n c r) h = refl

    leaves-node : (b : Bool) (n : Keyed L) (c r : Merge L) → (b ≡ true → is_element n.label ≡ true) → (is_element n.label ≡ false → c ≡ End) → HasLeaves is_element c → HasLeaves is_element r
        → HasLeaves is_element (at_node b n c r)
    leaves-node true n c r element text below beside = (element refl, element refl, refl, below, beside)
    leaves-node false n c r element text below beside = (text, below, beside)

    pub leaves-turned : (m : Merge L) → HasLeaves is_element m → HasLeaves is_element (turned m)
    leaves-turned End h = tt
    leaves-turned (Kept n c r) h =
        leaves-node (is_element n.label && p n.key) n (turned c) (turned r) (λ is. (and_parts (is_element n.label) (p n.key) is).0) (λ text. ap turned (h.0 text))
        (leaves-turned c h.1) (leaves-turned r h.2)
    leaves-turned (Turned was n c r) h = (h.0, h.1, h.2, leaves-turned c h.3, leaves-turned r h.4)
    leaves-turned (Gone n c r) h = leaves-turned r h
    leaves-turned (Come n c r) h = (h.0, h.1, leaves-turned r h.2)

    led-node : (b : Bool) (n : Keyed L) (c r : Merge L) → has_place c ≡ true → AreAllLed r → AreAllLed (at_node b n c r)
    led-node true n c r place beside = beside
    led-node false n c r place beside = (place, beside)

    pub led-turned : (m : Merge L) → AreAllLed m → AreAllLed (turned m)
    led-turned End h = tt
    led-turned (Kept n c r) h = led-node (is_element n.label && p n.key) n (turned c) (turned r) (place-turned c h.0) (led-turned r h.1)
    led-turned (Turned was n c r) h = led-turned r h
    led-turned (Gone n c r) h = led-turned r h
    led-turned (Come n c r) h = led-turned r h

    -- The same elements stay.

    stays-node : (q : ℕ) (b : Bool) (n : Keyed L) (c r : Merge L) → stays is_element q (at_node b n c r) ≡ stays is_element q (Kept n c r)
    stays-node q true n c r = refl
    stays-node q false n c r = refl

    pub stays-turned : (q : ℕ) (m : Merge L) → stays is_element q (turned m) ≡ stays is_element q m
    stays-turned q End = refl
    stays-turned q (Kept n c r) =
        let below = stays-turned q c in
        let beside = stays-turned q r in
        stays-node q (is_element n.label && p n.key) n (turned c) (turned r) ∙ (λ x. (is_element n.label && n.key == q) || (below x || beside x))
    stays-turned q (Turned was n c r) =
        let below = stays-turned q c in let beside = stays-turned q r in λ x. (is_element n.label && n.key == q) || (below x || beside x)
    stays-turned q (Gone n c r) = stays-turned q r
    stays-turned q (Come n c r) = stays-turned q r

  -- Where no key is turned, nothing is.
  pub none-turned : (m : Merge L) → turned_where is_element (λ _. false) m ≡ m
  none-turned End = refl
  none-turned (Kept n c r) =
      let below = none-turned c in
      let beside = none-turned r in
      ap (λ b. at_node b n (turned_where is_element (λ _. false) c) (turned_where is_element (λ _. false) r)) (neither (is_element n.label)) ∙ (λ x. Kept n (below x) (beside x))
    where
      neither : (b : Bool) → (b && false) ≡ false
      neither true = refl
      neither false = refl
  none-turned (Turned was n c r) = let below = none-turned c in let beside = none-turned r in λ x. Turned was n (below x) (beside x)
  none-turned (Gone n c r) = ap (Gone n c) (none-turned r)
  none-turned (Come n c r) = ap (Come n c) (none-turned r)

  -- To turn some and then others is to turn both.
  module _ (p q : ℕ → Bool) where
    first-or : (a x y : Bool) → (a && x) ≡ true → (a && (x || y)) ≡ true
    first-or true true y h = refl
    first-or true false y h = absurd (cc h)
    first-or false x y h = absurd (cc h)

    second-or : (a x y : Bool) → (a && x) ≡ false → (a && (x || y)) ≡ (a && y)
    second-or true true y h = absurd (cc h)
    second-or true false y h = refl
    second-or false x y h = refl

    abbrev both : ℕ → Bool
    both k = p k || q k

    pub turned-both : (m : Merge L) → turned_where is_element q (turned_where is_element p m) ≡ turned_where is_element both m
    turned-both End = refl
    turned-both (Kept n c r) =
        let c1 = turned_where is_element p c in
        let r1 = turned_where is_element p r in
        let below = turned-both c in
        let beside = turned-both r in
        elim (cases_Bool (is_element n.label && p n.key)) [
          | inl is ↦
              ap (λ b. turned_where is_element q (at_node b n c1 r1)) is
              ∙ (λ x. Turned n n (below x) (beside x))
              ∙ sym (ap (λ b. at_node b n (turned_where is_element both c) (turned_where is_element both r)) (first-or (is_element n.label) (p n.key) (q n.key) is))
          | inr not ↦
              ap (λ b. turned_where is_element q (at_node b n c1 r1)) not
              ∙ (λ x. at_node (is_element n.label && q n.key) n (below x) (beside x))
              ∙ sym (ap (λ b. at_node b n (turned_where is_element both c) (turned_where is_element both r)) (second-or (is_element n.label) (p n.key) (q n.key) not))
        ]
    turned-both (Turned was n c r) = let below = turned-both c in let beside = turned-both r in λ x. Turned was n (below x) (beside x)
    turned-both (Gone n c r) = ap (Gone n c) (turned-both r)
    turned-both (Come n c r) = ap (Come n c) (turned-both r)

  -- One key.
  module _ (k : ℕ) where
    abbrev is_it : ℕ → Bool
    is_it q = k == q

    pub kept-cases : (a b s t : Bool) → ((a && b) || (s || t)) ≡ true → ((a ≡ true) × (b ≡ true)) ⊎ ((s ≡ true) ⊎ (t ≡ true))
    kept-cases true true s t h = inl (refl, refl)
    kept-cases true false true t h = inr (inl refl)
    kept-cases true false false t h = inr (inr h)
    kept-cases false b true t h = inr (inl refl)
    kept-cases false b false t h = inr (inr h)

    once : (n : Keyed L) (x y : ℕ) → (n.key == k) ≡ true → 0 < cond {A = ℕ} (n.key == k) 1 0 + (x + y)
    once n x y h = rw h (omega arith)

    pub stays-counted : (m : Merge L) → stays is_element k m ≡ true → 0 < times k (new_of m)
    stays-counted End h = absurd (cc h)
    stays-counted (Kept n c r) h = elim (kept-cases (is_element n.label) (n.key == k) (stays is_element k c) (stays is_element k r) h) [
      | inl here ↦ once n (times k (new_of c)) (times k (new_of r)) here.1
      | inr (inl below) ↦ omega (arith, stays-counted c below)
      | inr (inr beside) ↦ omega (arith, stays-counted r beside)
    ]
    stays-counted (Turned was n c r) h = elim (kept-cases (is_element n.label) (n.key == k) (stays is_element k c) (stays is_element k r) h) [
      | inl here ↦ once n (times k (new_of c)) (times k (new_of r)) here.1
      | inr (inl below) ↦ omega (arith, stays-counted c below)
      | inr (inr beside) ↦ omega (arith, stays-counted r beside)
    ]
    stays-counted (Gone n c r) h = stays-counted r h
    stays-counted (Come n c r) h = omega (arith, stays-counted r h)

    -- a forest without the key
    other-key : (n : Keyed L) (x y : ℕ) → cond {A = ℕ} (n.key == k) 1 0 + (x + y) ≡ 0 → (n.key == k) ≡ false
    other-key n x y h =
        elim (n.key == k) as (λ b. cond {A = ℕ} b 1 0 + (x + y) ≡ 0 → b ≡ false) [ true ↦ λ h. absurd (omega (arith, h)) | false ↦ λ h. refl ] h

    pub not-turned : (n : Keyed L) → (n.key == k) ≡ false → (is_element n.label && (k == n.key)) ≡ false
    not-turned n h = and_right (is_element n.label) (k == n.key) (key-flipped k n.key ∙ h)

    pub absent-turned : (m : Merge L) → times k (new_of m) ≡ 0 → turned_where is_element is_it m ≡ m
    absent-turned End h = refl
    absent-turned (Kept n c r) h =
        let below = absent-turned c (omega (arith, h)) in
        let beside = absent-turned r (omega (arith, h)) in
        ap (λ b. at_node b n (turned_where is_element is_it c) (turned_where is_element is_it r)) (not-turned n (other-key n (times k (new_of c)) (times k (new_of r)) h))
        ∙ (λ x. Kept n (below x) (beside x))
    absent-turned (Turned was n c r) h =
        let below = absent-turned c (omega (arith, h)) in let beside = absent-turned r (omega (arith, h)) in λ x. Turned was n (below x) (beside x)
    absent-turned (Gone n c r) h = ap (Gone n c) (absent-turned r h)
    absent-turned (Come n c r) h = ap (Come n c) (absent-turned r (omega (arith, h)))

    pub absent-way : (g : Forest (Keyed L)) → times k g ≡ 0 → way_in g k ≡ None
    absent-way Empty h = refl
    absent-way (Tree n c r) h =
        ap (λ b. cond b (Some (n.key ∷ [])) (option_or (option_map (λ way. n.key ∷ way) (way_in c k)) (way_in r k))) (other-key n (times k c) (times k r) h)
        ∙ ap (λ o. option_or (option_map (λ way. n.key ∷ way) o) (way_in r k)) (absent-way c (omega (arith, h)))
        ∙ absent-way r (omega (arith, h))
