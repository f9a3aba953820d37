-- Where the nodes of a keyed forest stand.
use Rattle.std.proofs.Common.{◌≡◌, ◌==◌, ◌<◌, ◌≤◌, ◌+◌, ℕ, zero, suc, Bool, true, false, cond, List, [], ◌∷◌, ◌++◌, Option, Some, None, IsSome, refl, sym, ap, subst, ◌∙◌, ◌⊎◌, inl, inr, arith, eqb-true, eq-eqb}
use Rattle.std.specs.Option.{option_or}
use Rattle.std.proofs.lemmas.Option.{none-some, same_Some}
use Rattle.forest.specs.Forest.{Forest, Empty, Tree, weigh}
use Rattle.forest.specs.Keys.{Keyed, times, HasDistinctKeys}
use Rattle.forest.specs.Spots.{Spot, keyed, first_key, spot, spot_of, IsLive, IsLink, on_link, label_of, children_of, after_of, first_child_of, next_sibling_of}

-- what a choice of two values says of the test
pub chosen : {A : Type 0} (b : Bool) (x y z : A) → cond b x y ≡ z → ((b ≡ true) × (x ≡ z)) ⊎ ((b ≡ false) × (y ≡ z))
chosen true x y z e = inl (refl, e)
chosen false x y z e = inr (refl, e)

pub first_found : {A : Type 0} (a b : Option A) (x : A) → option_or a b ≡ Some x → (a ≡ Some x) ⊎ ((a ≡ None) × (b ≡ Some x))
first_found None b x e = inr (refl, e)
first_found (Some y) b x e = inl e

pub some_or_none : (n : ℕ) → (n ≡ 0) ⊎ (0 < n)
some_or_none zero = inl refl
some_or_none (suc n) = inr (omega arith)

some_left : {A : Type 0} (a b : Option A) → IsSome a → IsSome (option_or a b)
some_left None b h = absurd (cc)
some_left (Some a) b h = refl

pub the_some : {A : Type 0} (o : Option A) → IsSome o → (x : A) × (o ≡ Some x)
the_some None h = absurd (cc)
the_some (Some x) h = (x, refl)

module _ {L : Type 0} where
  abbrev pub the_spot : Option ℕ → List (Keyed L) → L → Forest (Keyed L) → Forest (Keyed L) → Spot L
  the_spot parent earlier label children after = record { parent = parent; earlier = earlier; label = label; children = children; after = after }

  pub keyed-same : (n : Keyed L) (q : ℕ) (l : L) → n.key ≡ q → n.label ≡ l → n ≡ keyed q l
  keyed-same n q l key label = λ i. keyed (key i) (label i)

  -- a node that stands somewhere is counted
  pub spot-counted : (f : Forest (Keyed L)) (p : Option ℕ) (e : List (Keyed L)) (q : ℕ) (s : Spot L) → spot p e f q ≡ Some s → 0 < times q f
  spot-counted Empty p e q s is = absurd (none-some s is)
  spot-counted (Tree n c r) p e q s is =
      elim (chosen (n.key == q) _ _ _ is) [
        | inl h ↦ rw h.0 (omega arith)
        | inr h ↦ elim (first_found _ _ s h.1) [
          | inl a ↦ omega (arith, spot-counted c (Some n.key) [] q s a)
          | inr b ↦ omega (arith, spot-counted r p (e ++ n ∷ []) q s b.1)
        ]
      ]

  pub spot-absent : (f : Forest (Keyed L)) (p : Option ℕ) (e : List (Keyed L)) (q : ℕ) → times q f ≡ 0 → spot p e f q ≡ None
  spot-absent Empty p e q h = refl
  spot-absent (Tree n c r) p e q h =
      elim (n.key == q) as (λ b. cond b 1 0 + (times q c + times q r) ≡ 0 → cond b (Some (the_spot p e n.label c r)) (option_or (spot (Some n.key) [] c q) (spot p (e ++ n ∷ []) r q)) ≡ None) [
        | true ↦ λ h. absurd (omega arith)
        | false ↦ λ h. rw (spot-absent c (Some n.key) [] q (omega arith), spot-absent r p (e ++ n ∷ []) q (omega arith)) refl
      ] h

  -- a key that is counted is that of a node
  pub spot-some : (f : Forest (Keyed L)) (p : Option ℕ) (e : List (Keyed L)) (q : ℕ) → 0 < times q f → IsSome (spot p e f q)
  spot-some Empty p e q h = absurd (omega arith)
  spot-some (Tree n c r) p e q h =
      elim (n.key == q) as (λ b. 0 < cond b 1 0 + (times q c + times q r) → IsSome (cond b (Some (the_spot p e n.label c r)) (option_or (spot (Some n.key) [] c q) (spot p (e ++ n ∷ []) r q)))) [
        | true ↦ λ h. refl
        | false ↦ λ h. elim (some_or_none (times q c)) [
          | inl z ↦ rw (spot-absent c (Some n.key) [] q z) (spot-some r p (e ++ n ∷ []) q (omega arith))
          | inr z ↦ some_left _ _ (spot-some c (Some n.key) [] q z)
        ]
      ] h

  -- the parts of a forest with distinct keys
  pub distinct-parts : (n : Keyed L) (c r : Forest (Keyed L)) → HasDistinctKeys (Tree n c r) → HasDistinctKeys c × HasDistinctKeys r
  distinct-parts n c r d = (λ q. omega (arith, d q), λ q. omega (arith, d q))

  -- a root's key stands nowhere else
  pub root-once : (n : Keyed L) (c r : Forest (Keyed L)) → HasDistinctKeys (Tree n c r) → (times n.key c ≡ 0) × (times n.key r ≡ 0)
  root-once n c r d =
      let h : (1 + (times n.key c + times n.key r)) ≤ 1 = subst (λ b. (cond b 1 0 + (times n.key c + times n.key r)) ≤ 1) (eq-eqb n.key n.key refl) (d n.key) in
      (omega arith, omega arith)

  -- no key stands both below a root and after it
  pub below-or-after : (n : Keyed L) (c r : Forest (Keyed L)) (q : ℕ) → HasDistinctKeys (Tree n c r) → 0 < times q r → times q c ≡ 0
  below-or-after n c r q d h = omega (arith, d q)

  -- what stands below a root or after it is another node
  pub not-root : (n : Keyed L) (c r : Forest (Keyed L)) (q : ℕ) → HasDistinctKeys (Tree n c r) → 0 < times q c + times q r → (n.key == q) ≡ false
  not-root n c r q d h =
      elim (n.key == q) as (λ b. (cond b 1 0 + (times q c + times q r)) ≤ 1 → b ≡ false) [
        | true ↦ λ e. absurd (omega arith)
        | false ↦ λ e. refl
      ] (d q)

  -- the first root's own spot
  pub spot-root : (p : Option ℕ) (e : List (Keyed L)) (n : Keyed L) (c r : Forest (Keyed L)) → spot p e (Tree n c r) n.key ≡ Some (the_spot p e n.label c r)
  spot-root p e n c r = rw (eq-eqb n.key n.key refl) refl

  -- a spot below the first root
  pub spot-below : (p : Option ℕ) (e : List (Keyed L)) (n : Keyed L) (c r : Forest (Keyed L)) (q : ℕ) (s : Spot L) → HasDistinctKeys (Tree n c r) → spot (Some n.key) [] c q ≡ Some s → spot p e (Tree n c r) q ≡ Some s
  spot-below p e n c r q s d is =
      let there : 0 < times q c = spot-counted c (Some n.key) [] q s is in
      rw (not-root n c r q d (omega arith), is) refl

  -- a spot after the first tree
  pub spot-beside : (p : Option ℕ) (e : List (Keyed L)) (n : Keyed L) (c r : Forest (Keyed L)) (q : ℕ) (s : Spot L) → HasDistinctKeys (Tree n c r) → spot p (e ++ n ∷ []) r q ≡ Some s → spot p e (Tree n c r) q ≡ Some s
  spot-beside p e n c r q s d is =
      let there : 0 < times q r = spot-counted r p (e ++ n ∷ []) q s is in
      rw (not-root n c r q d (omega arith), spot-absent c (Some n.key) [] q (below-or-after n c r q d there), is) refl

  -- the first child of a node stands under that node, with the other children after it
  pub spot-child : (f : Forest (Keyed L)) (p : Option ℕ) (e : List (Keyed L)) (q : ℕ) (s : Spot L) (m : Keyed L) (c r : Forest (Keyed L)) → HasDistinctKeys f → spot p e f q ≡ Some s → s.children ≡ Tree m c r → spot p e f m.key ≡ Some (the_spot (Some q) [] m.label c r)
  spot-child Empty p e q s m c r d at is = absurd (none-some s at)
  spot-child (Tree n c0 r0) p e q s m c r d at is =
      let parts = distinct-parts n c0 r0 d in
      elim (chosen (n.key == q) _ _ _ at) [
        | inl h ↦
            spot-below p e n c0 r0 m.key (the_spot (Some q) [] m.label c r) d
            (subst (λ x. spot (Some n.key) [] x m.key ≡ Some (the_spot (Some q) [] m.label c r)) (sym is ∙ sym (ap (λ t. t.children) (same_Some _ _ h.1)))
            (subst (λ x. spot (Some x) [] (Tree m c r) m.key ≡ Some (the_spot (Some q) [] m.label c r)) (sym (eqb-true n.key q h.0)) (spot-root (Some q) [] m c r)))
        | inr h ↦ elim (first_found _ _ s h.1) [
          | inl a ↦ spot-below p e n c0 r0 m.key (the_spot (Some q) [] m.label c r) d (spot-child c0 (Some n.key) [] q s m c r parts.0 a is)
          | inr b ↦ spot-beside p e n c0 r0 m.key (the_spot (Some q) [] m.label c r) d (spot-child r0 p (e ++ n ∷ []) q s m c r parts.1 b.1 is)
        ]
      ]

  -- the sibling after a node stands under the same parent, after one sibling more
  pub spot-next : (f : Forest (Keyed L)) (p : Option ℕ) (e : List (Keyed L)) (q : ℕ) (s : Spot L) (m : Keyed L) (c r : Forest (Keyed L)) → HasDistinctKeys f → spot p e f q ≡ Some s → s.after ≡ Tree m c r → spot p e f m.key ≡ Some (the_spot s.parent (s.earlier ++ keyed q s.label ∷ []) m.label c r)
  spot-next Empty p e q s m c r d at is = absurd (none-some s at)
  spot-next (Tree n c0 r0) p e q s m c r d at is =
      let parts = distinct-parts n c0 r0 d in
      let there : Spot L = the_spot s.parent (s.earlier ++ keyed q s.label ∷ []) m.label c r in
      elim (chosen (n.key == q) _ _ _ at) [
        | inl h ↦
            let its : the_spot p e n.label c0 r0 ≡ s = same_Some _ _ h.1 in
            let key : n ≡ keyed q s.label = keyed-same n q s.label (eqb-true n.key q h.0) (ap (λ t. t.label) its) in
            let here : spot p (e ++ n ∷ []) (Tree m c r) m.key ≡ Some (the_spot p (e ++ n ∷ []) m.label c r) = spot-root p (e ++ n ∷ []) m c r in
            let same : the_spot p (e ++ n ∷ []) m.label c r ≡ there = rw (← its, key) refl in
            spot-beside p e n c0 r0 m.key there d
            (subst (λ x. spot p (e ++ n ∷ []) x m.key ≡ Some there) (sym is ∙ sym (ap (λ t. t.after) its)) (here ∙ ap (λ x. Some x) same))
        | inr h ↦ elim (first_found _ _ s h.1) [
          | inl a ↦ spot-below p e n c0 r0 m.key there d (spot-next c0 (Some n.key) [] q s m c r parts.0 a is)
          | inr b ↦ spot-beside p e n c0 r0 m.key there d (spot-next r0 p (e ++ n ∷ []) q s m c r parts.1 b.1 is)
        ]
      ]

  -- a node, what is below it and what is after it weigh no more than the forest
  pub weigh-spot : (w : Keyed L → ℕ) (f : Forest (Keyed L)) (p : Option ℕ) (e : List (Keyed L)) (q : ℕ) (s : Spot L) → spot p e f q ≡ Some s → w (keyed q s.label) + (weigh w s.children + weigh w s.after) ≤ weigh w f
  weigh-spot w Empty p e q s is = absurd (none-some s is)
  weigh-spot w (Tree n c r) p e q s is =
      elim (chosen (n.key == q) _ _ _ is) [
        | inl h ↦ rw (← same_Some _ _ h.1, ← eqb-true n.key q h.0) (omega arith)
        | inr h ↦ elim (first_found _ _ s h.1) [
          | inl a ↦ omega (arith, weigh-spot w c (Some n.key) [] q s a)
          | inr b ↦ omega (arith, weigh-spot w r p (e ++ n ∷ []) q s b.1)
        ]
      ]

  pub live-spot : (f : Forest (Keyed L)) (q : ℕ) → IsLive f q → (s : Spot L) × (spot_of f q ≡ Some s)
  live-spot f q h = the_some (spot_of f q) h

  pub live-counted : (f : Forest (Keyed L)) (q : ℕ) → IsLive f q → 0 < times q f
  live-counted f q h = let s = live-spot f q h in spot-counted f None [] q s.0 s.1

  pub counted-live : (f : Forest (Keyed L)) (q : ℕ) → 0 < times q f → IsLive f q
  counted-live f q h = spot-some f None [] q h

  -- the links of a document lead to its parts

  pub on_root : (f : Forest (Keyed L)) → on_link f (first_key f) ≡ f
  on_root Empty = refl
  on_root (Tree n c r) = rw (spot-root None [] n c r) refl

  pub root_link : (f : Forest (Keyed L)) → IsLink f (first_key f)
  root_link Empty = tt
  root_link (Tree n c r) = rw (spot-root None [] n c r) refl

  below : (f : Forest (Keyed L)) (q : ℕ) (s : Spot L) (g : Forest (Keyed L)) → HasDistinctKeys f → spot_of f q ≡ Some s → s.children ≡ g → (on_link f (first_key g) ≡ g) × IsLink f (first_key g)
  below f q s Empty d e is = (refl, tt)
  below f q s (Tree n c r) d e is = rw (spot-child f None [] q s n c r d e is) (refl, refl)

  beside : (f : Forest (Keyed L)) (q : ℕ) (s : Spot L) (g : Forest (Keyed L)) → HasDistinctKeys f → spot_of f q ≡ Some s → s.after ≡ g → (on_link f (first_key g) ≡ g) × IsLink f (first_key g)
  beside f q s Empty d e is = (refl, tt)
  beside f q s (Tree n c r) d e is = rw (spot-next f None [] q s n c r d e is) (refl, refl)

  pub on_first : (f : Forest (Keyed L)) (q : ℕ) → HasDistinctKeys f → IsLive f q → (on_link f (first_child_of f q) ≡ children_of f q) × IsLink f (first_child_of f q)
  on_first f q d h = let s = live-spot f q h in rw s.1 (below f q s.0 s.0.children d s.1 refl)

  pub on_next : (f : Forest (Keyed L)) (q : ℕ) → HasDistinctKeys f → IsLive f q → (on_link f (next_sibling_of f q) ≡ after_of f q) × IsLink f (next_sibling_of f q)
  on_next f q d h = let s = live-spot f q h in rw s.1 (beside f q s.0 s.0.after d s.1 refl)

  -- what begins at a node
  pub on_key : (f : Forest (Keyed L)) (q : ℕ) (l : L) → IsLive f q → Some l ≡ label_of f q → on_link f (Some q) ≡ Tree (keyed q l) (children_of f q) (after_of f q)
  on_key f q l h e = let s = live-spot f q h in rw s.1 (let same : l ≡ s.0.label = same_Some _ _ (rw s.1 at e) in rw same refl)
