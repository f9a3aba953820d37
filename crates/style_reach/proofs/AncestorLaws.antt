-- The inclusive ancestors of a node: with those of its parent, and in a document of which a part is replaced.
use Rattle.std.proofs.Common.{◌≡◌, ◌==◌, ◌<◌, ◌≤◌, ◌+◌, ◌||◌, ℕ, zero, suc, Bool, true, false, cond, List, [], ◌∷◌, ◌++◌, length, Option, Some, None, refl, sym, ap, subst, ◌∙◌, inl, inr, arith, append-nil, eqb-true, eq-eqb}
use Rattle.std.specs.List.{list_any}
use Rattle.std.proofs.lemmas.List.Folds.{list_any-append}
use Rattle.std.proofs.lemmas.Option.{none-some, same_Some}
use Rattle.forest.specs.Forest.{Forest, Empty, Tree, IsOneTree}
use Rattle.forest.specs.Keys.{Keyed, HasDistinctKeys, times}
use Rattle.forest.specs.Spots.{Spot, keyed, spot, spot_of, IsLive, label_of, parent_of}
use Rattle.forest.proofs.PathLaws.{parent-live}
use Rattle.forest.proofs.SpotLaws.{chosen, first_found, some_or_none, keyed-same, spot-counted, distinct-parts, below-or-after, not-root, the_spot, weigh-spot, live-spot, live-counted}
use Rattle.style_reach.specs.Ancestors.{ancestors_in, inclusive_ancestors, is_within}
use Rattle.style_reach.proofs.TestLaws.{or-first, or-second}

module _ {L : Type 0} where
  pub ancestors-absent : (f : Forest (Keyed L)) (above : List (Keyed L)) (q : ℕ) → times q f ≡ 0 → ancestors_in above f q ≡ []
  ancestors-absent Empty above q h = refl
  ancestors-absent (Tree n c r) above q h =
      elim (n.key == q) as (λ b. cond b 1 0 + (times q c + times q r) ≡ 0 → cond b (n ∷ above) (ancestors_in (n ∷ above) c q ++ ancestors_in above r q) ≡ []) [
        | true ↦ λ h. absurd (omega arith)
        | false ↦ λ h. rw (ancestors-absent c (n ∷ above) q (omega arith), ancestors-absent r above q (omega arith)) refl
      ] h

  at-root : (above : List (Keyed L)) (n : Keyed L) (c r : Forest (Keyed L)) → ancestors_in above (Tree n c r) n.key ≡ n ∷ above
  at-root above n c r = rw (eq-eqb n.key n.key refl) refl

  pub ancestors-below : (above : List (Keyed L)) (n : Keyed L) (c r : Forest (Keyed L)) (q : ℕ) → HasDistinctKeys (Tree n c r) → 0 < times q c → ancestors_in above (Tree n c r) q ≡ ancestors_in (n ∷ above) c q
  ancestors-below above n c r q d h =
      let none : times q r ≡ 0 = omega (arith, d q) in
      rw (not-root n c r q d (omega arith), ancestors-absent r above q none) (append-nil (ancestors_in (n ∷ above) c q))

  pub ancestors-beside : (above : List (Keyed L)) (n : Keyed L) (c r : Forest (Keyed L)) (q : ℕ) → HasDistinctKeys (Tree n c r) → 0 < times q r → ancestors_in above (Tree n c r) q ≡ ancestors_in above r q
  ancestors-beside above n c r q d h = rw (not-root n c r q d (omega arith), ancestors-absent c (n ∷ above) q (below-or-after n c r q d h)) refl

  -- A node with its parent.

  -- the node is a root of these trees, or under one of their nodes
  data Hangs (above : List (Keyed L)) (p : Option ℕ) (f : Forest (Keyed L)) (q : ℕ) (s : Spot L) : Type 0 where
    as_root : s.parent ≡ p → ancestors_in above f q ≡ keyed q s.label ∷ above → Hangs above p f q s
    under : (x : ℕ) → 0 < times x f → s.parent ≡ Some x → ancestors_in above f q ≡ keyed q s.label ∷ ancestors_in above f x → Hangs above p f q s

  hangs-below : (above : List (Keyed L)) (p : Option ℕ) (n : Keyed L) (c r : Forest (Keyed L)) (q : ℕ) (s : Spot L) → HasDistinctKeys (Tree n c r) → 0 < times q c
      → Hangs (n ∷ above) (Some n.key) c q s → Hangs above p (Tree n c r) q s
  hangs-below above p n c r q s d there (as_root parent at) =
      let once = eq-eqb n.key n.key refl in
      under n.key (rw once (omega arith)) parent (ancestors-below above n c r q d there ∙ at ∙ ap (λ ns. keyed q s.label ∷ ns) (sym (at-root above n c r)))
  hangs-below above p n c r q s d there (under x some parent at) =
      under x (omega arith) parent (ancestors-below above n c r q d there ∙ at ∙ ap (λ ns. keyed q s.label ∷ ns) (sym (ancestors-below above n c r x d some)))

  hangs-beside : (above : List (Keyed L)) (p : Option ℕ) (n : Keyed L) (c r : Forest (Keyed L)) (q : ℕ) (s : Spot L) → HasDistinctKeys (Tree n c r) → 0 < times q r
      → Hangs above p r q s → Hangs above p (Tree n c r) q s
  hangs-beside above p n c r q s d there (as_root parent at) = as_root parent (ancestors-beside above n c r q d there ∙ at)
  hangs-beside above p n c r q s d there (under x some parent at) =
      under x (omega arith) parent (ancestors-beside above n c r q d there ∙ at ∙ ap (λ ns. keyed q s.label ∷ ns) (sym (ancestors-beside above n c r x d some)))

  hangs : (f : Forest (Keyed L)) (above : List (Keyed L)) (p : Option ℕ) (e : List (Keyed L)) (q : ℕ) (s : Spot L) → HasDistinctKeys f → spot p e f q ≡ Some s → Hangs above p f q s
  hangs Empty above p e q s d is = absurd (none-some s is)
  hangs (Tree n c r) above p e q s d is =
      let parts = distinct-parts n c r d in
      elim (chosen (n.key == q) _ _ _ is) [
        | inl h ↦
            let same : the_spot p e n.label c r ≡ s = same_Some _ _ h.1 in
            let node : n ≡ keyed q s.label = keyed-same n q s.label (eqb-true n.key q h.0) (ap (λ (t : Spot L). t.label) same) in
            as_root (sym (ap (λ (t : Spot L). t.parent) same)) (rw h.0 (ap (λ m. m ∷ above) node))
        | inr h ↦ elim (first_found _ _ s h.1) [
          | inl a ↦ hangs-below above p n c r q s d (spot-counted c (Some n.key) [] q s a) (hangs c (n ∷ above) (Some n.key) [] q s parts.0 a)
          | inr b ↦ hangs-beside above p n c r q s d (spot-counted r p (e ++ n ∷ []) q s b.1) (hangs r above p (e ++ n ∷ []) q s parts.1 b.1)
        ]
      ]

  -- a child's inclusive ancestors are itself and those of its parent
  pub of-child : (f : Forest (Keyed L)) (q x : ℕ) (l : L) → HasDistinctKeys f → IsLive f q → Some l ≡ label_of f q → parent_of f q ≡ Some x → inclusive_ancestors f q ≡ keyed q l ∷ inclusive_ancestors f x
  of-child f q x l d live label parent =
      let s = live-spot f q live in
      let same : l ≡ s.0.label = same_Some _ _ (rw s.1 at label) in
      elim (hangs f [] None [] q s.0 d s.1) [
        | as_root none at ↦ absurd (none-some x (sym none ∙ (rw s.1 at parent)))
        | under y some is at ↦
            let parent_is : y ≡ x = same_Some y x (sym is ∙ (rw s.1 at parent)) in
            rw (same, ← parent_is) at
      ]

  -- a root has none but itself
  pub of-root : (f : Forest (Keyed L)) (q : ℕ) (l : L) → HasDistinctKeys f → IsLive f q → Some l ≡ label_of f q → parent_of f q ≡ None → inclusive_ancestors f q ≡ keyed q l ∷ []
  of-root f q l d live label parent =
      let s = live-spot f q live in
      let same : l ≡ s.0.label = same_Some _ _ (rw s.1 at label) in
      elim (hangs f [] None [] q s.0 d s.1) [
        | as_root none at ↦ rw same at
        | under y some is at ↦ absurd (none-some y (sym (rw s.1 at parent) ∙ is))
      ]

  -- a node is the first of its inclusive ancestors
  pub begins-with : (f : Forest (Keyed L)) (q : ℕ) → HasDistinctKeys f → IsLive f q → (l : L) × (ns : List (Keyed L)) × (inclusive_ancestors f q ≡ keyed q l ∷ ns)
  begins-with f q d live =
      let s = live-spot f q live in
      elim (hangs f [] None [] q s.0 d s.1) [
        | as_root none at ↦ (s.0.label, [], at)
        | under x some parent at ↦ (s.0.label, inclusive_ancestors f x, at)
      ]

  -- Nodes in a node.

  pub end-found : (test : Keyed L → Bool) (g : Forest (Keyed L)) (above : List (Keyed L)) (q : ℕ) → 0 < times q g → list_any test above ≡ true → list_any test (ancestors_in above g q) ≡ true
  end-found test Empty above q some found = absurd (omega arith)
  end-found test (Tree n c r) above q some found =
      elim (n.key == q) as (λ b. 0 < cond b 1 0 + (times q c + times q r) → list_any test (cond b (n ∷ above) (ancestors_in (n ∷ above) c q ++ ancestors_in above r q)) ≡ true) [
        | true ↦ λ _. or-second (test n) (list_any test above) found
        | false ↦ λ some. rw (list_any-append test (ancestors_in (n ∷ above) c q) (ancestors_in above r q)) (elim (some_or_none (times q c)) [
          | inl none ↦ or-second (list_any test (ancestors_in (n ∷ above) c q)) _ (end-found test r above q (omega arith) found)
          | inr there ↦ or-first _ (list_any test (ancestors_in above r q)) (end-found test c (n ∷ above) q there (or-second (test n) (list_any test above) found))
        ])
      ] some

  top-found : (f : Forest (Keyed L)) (above : List (Keyed L)) (p : Option ℕ) (e : List (Keyed L)) (top q : ℕ) (s : Spot L) → HasDistinctKeys f → spot p e f top ≡ Some s → 0 < times q s.children
      → list_any (λ (n : Keyed L). n.key == top) (ancestors_in above f q) ≡ true
  top-found Empty above p e top q s d is some = absurd (none-some s is)
  top-found (Tree n c r) above p e top q s d is some =
      let test : Keyed L → Bool = λ m. m.key == top in
      let parts = distinct-parts n c r d in
      elim (chosen (n.key == top) _ _ _ is) [
        | inl h ↦
            let children : c ≡ s.children = ap (λ (t : Spot L). t.children) (same_Some _ _ h.1) in
            let there : 0 < times q c = subst (λ g. 0 < times q g) (sym children) some in
            rw (ancestors-below above n c r q d there) (end-found test c (n ∷ above) q there (or-first (test n) (list_any test above) h.0))
        | inr h ↦ elim (first_found _ _ s h.1) [
          | inl a ↦
              let within : cond (top == q) 1 0 + (times q s.children + times q s.after) ≤ times q c = weigh-spot (λ (m : Keyed L). cond (m.key == q) 1 0) c (Some n.key) [] top s a in
              let there : 0 < times q c = omega arith in
              rw (ancestors-below above n c r q d there) (top-found c (n ∷ above) (Some n.key) [] top q s parts.0 a some)
          | inr b ↦
              let within : cond (top == q) 1 0 + (times q s.children + times q s.after) ≤ times q r = weigh-spot (λ (m : Keyed L). cond (m.key == q) 1 0) r p (e ++ n ∷ []) top s b.1 in
              let there : 0 < times q r = omega arith in
              rw (ancestors-beside above n c r q d there) (top-found r above p (e ++ n ∷ []) top q s parts.1 b.1 some)
        ]
      ]

  -- a node that is not in another is not that one, nor among the nodes under it
  pub outside : (f : Forest (Keyed L)) (top q : ℕ) (s : Spot L) → HasDistinctKeys f → spot_of f top ≡ Some s → IsLive f q → is_within f top q ≡ false → ((top == q) ≡ false) × (times q s.children ≡ 0)
  outside f top q s d is live out = (
    elim (top == q) as (λ b. (top == q) ≡ b → b ≡ false) [
      | true ↦ λ e. absurd (let found : is_within f top q ≡ true = itself e in cc)
      | false ↦ λ e. refl
    ] refl,
    elim (some_or_none (times q s.children)) [
      | inl none ↦ none
      | inr some ↦ absurd (let found : is_within f top q ≡ true = top-found f [] None [] top q s d is some in cc)
    ],
  )
    where
      itself : (top == q) ≡ true → is_within f top q ≡ true
      itself e =
          let t = live-spot f q live in
          let same : (q == top) ≡ true = eq-eqb q top (sym (eqb-true top q e)) in
          elim (hangs f [] None [] q t.0 d t.1) [
            | as_root none at ↦ rw at (or-first (q == top) false same)
            | under x some parent at ↦ rw at (or-first (q == top) (list_any (λ (n : Keyed L). n.key == top) (ancestors_in [] f x)) same)
          ]

  has-parent : (g : Forest (Keyed L)) (p : ℕ) (e : List (Keyed L)) (k : ℕ) (s : Spot L) → spot (Some p) e g k ≡ Some s → s.parent ≡ None → ⊥
  has-parent Empty p e k s is none = none-some s is
  has-parent (Tree m x y) p e k s is none =
      elim (chosen (m.key == k) _ _ _ is) [
        | inl h ↦ none-some p (sym (ap (λ (t : Spot L). t.parent) (same_Some _ _ h.1) ∙ none))
        | inr h ↦ elim (first_found _ _ s h.1) [
          | inl a ↦ has-parent x m.key [] k s a none
          | inr b ↦ has-parent y p (e ++ m ∷ []) k s b.1 none
        ]
      ]

  -- all nodes of a document are in its root
  pub root-within : (f : Forest (Keyed L)) (top q : ℕ) → HasDistinctKeys f → IsOneTree f → IsLive f top → parent_of f top ≡ None → IsLive f q → is_within f top q ≡ true
  root-within Empty top q d one live none there = absurd one
  root-within (Tree n c r) top q d one live none there =
      let key : n.key ≡ top = first one in
      rw (← key, one) (elim (n.key == q) as (λ b. (n.key == q) ≡ b → list_any (λ (m : Keyed L). m.key == n.key) (cond b (n ∷ []) (ancestors_in (n ∷ []) c q ++ [])) ≡ true) [
        | true ↦ λ is. or-first (n.key == n.key) false (eq-eqb n.key n.key refl)
        | false ↦ λ is.
            let whole : 0 < cond (n.key == q) 1 0 + (times q c + times q r) = live-counted (Tree n c r) q there in
            let some : 0 < 0 + (times q c + times q r) = rw is at whole in
            let none : times q r ≡ 0 = ap (times q) one in
            rw (append-nil (ancestors_in (n ∷ []) c q)) (end-found (λ (m : Keyed L). m.key == n.key) c (n ∷ []) q (omega arith) (or-first (n.key == n.key) false (eq-eqb n.key n.key refl)))
      ] refl)
    where
      first : r ≡ Empty → n.key ≡ top
      first one =
          let s = live-spot (Tree n c r) top live in
          elim (chosen (n.key == top) _ _ _ s.1) [
            | inl h ↦ eqb-true n.key top h.0
            | inr h ↦ elim (first_found _ _ s.0 h.1) [
              | inl a ↦ absurd (has-parent c n.key [] top s.0 a (let e : s.0.parent ≡ None = rw s.1 at none in e))
              | inr b ↦ absurd (none-some s.0 (ap (λ g. spot None (n ∷ []) g top) (sym one) ∙ b.1))
            ]
          ]

  -- A node that another is in is a node, and what it is in the other is in too.
  module _ (f : Forest (Keyed L)) (a : ℕ) (d : HasDistinctKeys f) where
    climb : (n q : ℕ) → length (inclusive_ancestors f q) ≤ n → IsLive f q → is_within f a q ≡ true → IsLive f a × ((top : ℕ) → is_within f top a ≡ true → is_within f top q ≡ true)
    climb zero q few live above = let first = begins-with f q d live in absurd (omega (arith, ap length first.2))
    climb (suc n) q few live above =
        let s = live-spot f q live in
        let label : Some s.0.label ≡ label_of f q = rw s.1 refl in
        elim (q == a) as (λ b. (q == a) ≡ b → IsLive f a × ((top : ℕ) → is_within f top a ≡ true → is_within f top q ≡ true)) [
          | true ↦ λ is. let same : q ≡ a = eqb-true q a is in rw (← same) (live, λ top h. h)
          | false ↦ λ other. elim (parent_of f q) as (λ (o : Option ℕ). parent_of f q ≡ o → IsLive f a × ((top : ℕ) → is_within f top a ≡ true → is_within f top q ≡ true)) [
            | None ↦ λ parent.
                let alone = of-root f q s.0.label d live label parent in
                absurd (let never : false ≡ true = sym (ap (λ b. b || false) other) ∙ sym (ap (list_any (λ (m : Keyed L). m.key == a)) alone) ∙ above in cc)
            | Some x ↦ λ parent.
                let all = of-child f q x s.0.label d live label parent in
                let up = climb n x (omega (arith, ap length all)) (parent-live f q x d live parent)
                (sym (ap (λ b. b || is_within f a x) other) ∙ sym (ap (list_any (λ (m : Keyed L). m.key == a)) all) ∙ above) in
                (up.0, λ top h. ap (list_any (λ (m : Keyed L). m.key == top)) all ∙ or-second (q == top) (is_within f top x) (up.1 top h))
          ] refl
        ] refl

  pub within-above : (f : Forest (Keyed L)) (a q : ℕ) → HasDistinctKeys f → IsLive f q → is_within f a q ≡ true → IsLive f a × ((top : ℕ) → is_within f top a ≡ true → is_within f top q ≡ true)
  within-above f a q d live above = climb f a d (length (inclusive_ancestors f q)) q (omega arith) live above
