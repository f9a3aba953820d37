-- Changes at a path: what they make of the tree there, and what they leave as it was.
use Rattle.std.proofs.Common.{◌≡◌, ◌==◌, ◌<◌, ◌≤◌, ◌+◌, ◌-◌, ◌⊎◌, ℕ, zero, suc, nat_lt, true, false, cond, ◌&&◌, List, [], ◌∷◌, ◌++◌, length, refl, sym, ap, subst, ◌∙◌, inl, inr, arith, eqb-true, eq-eqb}
use Rattle.std.proofs.lemmas.Bool.{eqb-false, ltb-true, ltb-false}
use Rattle.forest.specs.Forest.{Forest, Empty, Tree}
use Rattle.forest.specs.Spots.{roots}
use Rattle.forest.specs.Paths.{trees_from, on_path}
use Rattle.node_arena.specs.AtPaths.{from_position, at_path, without_first, with_children, first_label, first_children, removed_at, leads_into, once_out}

-- two numbers are equal, or one is less
pub apart : (a b : ℕ) → (a == b) ≡ false → (a < b) ⊎ (b < a)
apart a b e = elim (nat_lt a b) as (λ t. nat_lt a b ≡ t → (a < b) ⊎ (b < a)) [
  | true ↦ λ is. inl (ltb-true a b is)
  | false ↦ λ is. let low = ltb-false a b is in let differ = eqb-false a b e in inr (omega arith)
] refl

module _ {L : Type 0} where
  -- Trees at positions.

  pub from-empty : (i : ℕ) → trees_from {L = L} i Empty ≡ Empty
  from-empty zero = refl
  from-empty (suc i) = refl

  from-rest : (i : ℕ) (x y : Forest L) → trees_from 1 x ≡ trees_from 1 y → trees_from (suc i) x ≡ trees_from (suc i) y
  from-rest i Empty Empty e = refl
  from-rest i Empty (Tree m d s) e = sym (from-empty i) ∙ ap (trees_from i) e
  from-rest i (Tree n c r) Empty e = ap (trees_from i) e ∙ from-empty i
  from-rest i (Tree n c r) (Tree m d s) e = ap (trees_from i) e

  -- the first tree of both has one label and the same children
  abbrev pub IsSameTree : Forest L → Forest L → Type 0
  IsSameTree x y = (first_label x ≡ first_label y) × (first_children x ≡ first_children y)

  pub on-same : (path : List ℕ) (x y : Forest L) → IsSameTree x y → IsSameTree (on_path path x) (on_path path y)
  on-same [] x y h = h
  on-same (k ∷ path) Empty Empty h = (refl, refl)
  on-same (k ∷ path) Empty (Tree m d s) h = absurd (cc (h.0))
  on-same (k ∷ path) (Tree n c r) Empty h = absurd (cc (h.0))
  on-same (k ∷ path) (Tree n c r) (Tree m d s) h = rw h.1 (refl, refl)

  -- Where trees from a position on are changed: there, before and behind.

  pub changed-there : (change : Forest L → Forest L) (g : ℕ) (c : Forest L) → change Empty ≡ Empty → trees_from g (from_position change g c) ≡ change (trees_from g c)
  changed-there change zero c e = refl
  changed-there change (suc g) Empty e = sym e
  changed-there change (suc g) (Tree n d r) e = changed-there change g r e

  pub changed-before : (change : Forest L → Forest L) (g i : ℕ) (c : Forest L) → i < g → IsSameTree (trees_from i (from_position change g c)) (trees_from i c)
  changed-before change zero i c low = absurd (omega arith)
  changed-before change (suc g) i Empty low = (refl, refl)
  changed-before change (suc g) zero (Tree n d r) low = (refl, refl)
  changed-before change (suc g) (suc i) (Tree n d r) low = changed-before change g i r (omega arith)

  pub changed-behind : (change : Forest L → Forest L) (g i : ℕ) (c : Forest L) → ((x : Forest L) → trees_from 1 (change x) ≡ trees_from 1 x) → g < i → trees_from i (from_position change g c) ≡ trees_from i c
  changed-behind change zero zero c same low = absurd (omega arith)
  changed-behind change zero (suc i) c same low = from-rest i (change c) c (same c)
  changed-behind change (suc g) i Empty same low = refl
  changed-behind change (suc g) zero (Tree n d r) same low = absurd (omega arith)
  changed-behind change (suc g) (suc i) (Tree n d r) same low = changed-behind change g i r same (omega arith)

  -- where one goes, those behind move up
  pub moved-up : (g i : ℕ) (c : Forest L) → g ≤ i → trees_from i (from_position without_first g c) ≡ trees_from (suc i) c
  moved-up zero i Empty low = from-empty i
  moved-up zero i (Tree n d r) low = refl
  moved-up (suc g) i Empty low = from-empty i
  moved-up (suc g) zero (Tree n d r) low = absurd (omega arith)
  moved-up (suc g) (suc i) (Tree n d r) low = moved-up g i r (omega arith)

  pub count-kept : (change : Forest L → Forest L) (g : ℕ) (c : Forest L) → ((x : Forest L) → length (roots (change x)) ≡ length (roots x)) → length (roots (from_position change g c)) ≡ length (roots c)
  count-kept change zero c same = same c
  count-kept change (suc g) Empty same = refl
  count-kept change (suc g) (Tree n d r) same = ap (λ k. suc k) (count-kept change g r same)

  pub count-without : (g : ℕ) (c : Forest L) → g < length (roots c) → length (roots (from_position without_first g c)) + 1 ≡ length (roots c)
  count-without g Empty low = absurd (omega arith)
  count-without zero (Tree n d r) low = omega arith
  count-without (suc g) (Tree n d r) low = omega (arith, count-without g r (omega arith))

  -- Changes at a path.

  pub at-empty : (change : Forest L → Forest L) (path : List ℕ) → change Empty ≡ Empty → at_path change path Empty ≡ Empty
  at-empty change [] e = e
  at-empty change (p ∷ path) e = refl

  at-rest : (change : Forest L → Forest L) (p : ℕ) (path : List ℕ) (x : Forest L) → trees_from 1 (at_path change (p ∷ path) x) ≡ trees_from 1 x
  at-rest change p path Empty = refl
  at-rest change p path (Tree n c r) = refl

  at-count : (change : Forest L → Forest L) (p : ℕ) (path : List ℕ) (x : Forest L) → length (roots (at_path change (p ∷ path) x)) ≡ length (roots x)
  at-count change p path Empty = refl
  at-count change p path (Tree n c r) = refl

  -- what then stands there
  pub on-changed : (change : Forest L → Forest L) (path : List ℕ) (f : Forest L) → change Empty ≡ Empty → on_path path (at_path change path f) ≡ change (on_path path f)
  on-changed change [] f e = refl
  on-changed change (p ∷ path) Empty e = sym e
  on-changed change (p ∷ path) (Tree n c r) e =
      ap (on_path path) (changed-there (at_path change path) p c (at-empty change path e)) ∙ on-changed change path (trees_from p c) e

  from-same : (first second : Forest L → Forest L) → ((x : Forest L) → first x ≡ second x) → (i : ℕ) (x : Forest L) → from_position first i x ≡ from_position second i x
  from-same first second same zero x = same x
  from-same first second same (suc i) Empty = refl
  from-same first second same (suc i) (Tree n c r) = ap (λ t. Tree n c t) (from-same first second same i r)

  pub at-same : (first second : Forest L → Forest L) → ((x : Forest L) → first x ≡ second x) → (path : List ℕ) (f : Forest L) → at_path first path f ≡ at_path second path f
  at-same first second same [] f = same f
  at-same first second same (p ∷ path) Empty = refl
  at-same first second same (p ∷ path) (Tree n c r) = ap (λ d. Tree n d r) (from-same (at_path first path) (at_path second path) (at-same first second same path) p c)

  -- a longer path
  pub at-append : (change : Forest L → Forest L) (path rest : List ℕ) (f : Forest L) → at_path change (path ++ rest) f ≡ at_path (at_path change rest) path f
  at-append change [] rest f = refl
  at-append change (p ∷ path) rest Empty = refl
  at-append change (p ∷ path) rest (Tree n c r) = ap (λ d. Tree n d r) (from-same (at_path change (path ++ rest)) (at_path (at_path change rest) path) (at-append change path rest) p c)

  at-child : (change : Forest L → Forest L) (i : ℕ) (f : Forest L) → at_path change (i ∷ []) f ≡ with_children (from_position change i) f
  at-child change i Empty = refl
  at-child change i (Tree n c r) = refl

  -- a node goes from among the children of its parent
  pub removed-child : (parent : List ℕ) (i : ℕ) (f : Forest L) → removed_at (parent ++ i ∷ []) f ≡ at_path (with_children (from_position without_first i)) parent f
  removed-child parent i f =
      at-append without_first parent (i ∷ []) f
      ∙ at-same (at_path without_first (i ∷ [])) (with_children (from_position without_first i)) (at-child without_first i) parent f

  -- A node that isn't in the one that goes: its label stays, and so does the number of its children, but for
  -- the parent of the one that goes.
  abbrev pub Stays : List ℕ → List ℕ → Forest L → Forest L → Type 0
  Stays from parent now before =
      (first_label now ≡ first_label before)
      × ((length (roots (first_children now)) ≡ length (roots (first_children before))) ⊎ ((i : ℕ) × (from ≡ parent ++ i ∷ [])))

  same-stays : (from parent : List ℕ) (now before : Forest L) → IsSameTree now before → Stays from parent now before
  same-stays from parent now before h = (h.0, inl (ap (λ c. length (roots c)) h.1))

  equal-stays : (from parent : List ℕ) (now before : Forest L) → now ≡ before → Stays from parent now before
  equal-stays from parent now before e = (ap first_label e, inl (ap (λ c. length (roots (first_children c))) e))

  stays-below : (s p : ℕ) (from parent : List ℕ) (now before : Forest L) → s ≡ p → Stays from parent now before → Stays (s ∷ from) (p ∷ parent) now before
  stays-below s p from parent now before e (label, inl count) = (label, inl count)
  stays-below s p from parent now before e (label, inr child) = (label, inr (child.0, (λ i. e i ∷ child.1 i)))

  pub stays : (from parent : List ℕ) (f : Forest L) → 0 < length from → leads_into from parent ≡ false → Stays from parent (on_path (once_out from parent) (removed_at from f)) (on_path parent f)
  stays [] parent f some out = absurd (omega arith)
  stays (g ∷ []) [] Empty some out = (refl, inl refl)
  stays (g ∷ []) [] (Tree n c r) some out = (refl, inr (g, refl))
  stays (g ∷ []) (p ∷ path) Empty some out = (refl, inl refl)
  stays (g ∷ []) (p ∷ path) (Tree n c r) some out =
      elim (nat_lt g p) as (λ t. nat_lt g p ≡ t → Stays (g ∷ []) (p ∷ path) (on_path path (trees_from (cond t (p - 1) p) (from_position without_first g c))) (on_path path (trees_from p c))) [
        | true ↦ λ is.
            let low : g < p = ltb-true g p is in
            let next : suc (p - 1) ≡ p = omega arith in
            let up : trees_from (p - 1) (from_position without_first g c) ≡ trees_from p c = moved-up g (p - 1) c (omega arith) ∙ ap (λ k. trees_from k c) next in
            equal-stays (g ∷ []) (p ∷ path) _ _ (ap (on_path path) up)
        | false ↦ λ is.
            let low : p < g = elim (apart g p (last g p path out)) [ inl h ↦ absurd (let high = ltb-false g p is in omega arith) | inr h ↦ h ] in
            same-stays (g ∷ []) (p ∷ path) _ _ (on-same path _ _ (changed-before without_first g p c low))
      ] refl
    where
      last : (g p : ℕ) (path : List ℕ) → leads_into (g ∷ []) (p ∷ path) ≡ false → (g == p) ≡ false
      last g p path out = elim (g == p) as (λ t. t && true ≡ false → t ≡ false) [ true ↦ λ e. e | false ↦ λ e. refl ] out
  stays (s ∷ (n ∷ above)) [] Empty some out = (refl, inl refl)
  stays (s ∷ (n ∷ above)) [] (Tree l c r) some out = (refl, inl (count-kept (removed_at (n ∷ above)) s c (at-count without_first n above)))
  stays (s ∷ (n ∷ above)) (p ∷ path) Empty some out = (refl, inl refl)
  stays (s ∷ (n ∷ above)) (p ∷ path) (Tree l c r) some out =
      let change : Forest L → Forest L = removed_at (n ∷ above) in
      elim (s == p) as (λ t. (s == p) ≡ t → t && leads_into (n ∷ above) path ≡ false → Stays (s ∷ (n ∷ above)) (p ∷ path) (on_path (cond t (once_out (n ∷ above) path) path) (trees_from p (from_position change s c))) (on_path path (trees_from p c))) [
        | true ↦ λ is inside.
            let key : s ≡ p = eqb-true s p is in
            let there : trees_from p (from_position change s c) ≡ change (trees_from p c) = subst (λ k. trees_from k (from_position change s c) ≡ change (trees_from k c)) key (changed-there change s c (at-empty without_first (n ∷ above) refl)) in
            rw there (stays-below s p (n ∷ above) path _ _ key (stays (n ∷ above) path (trees_from p c) (omega arith) inside))
        | false ↦ λ is inside. elim (apart s p is) [
          | inl low ↦ equal-stays (s ∷ (n ∷ above)) (p ∷ path) _ _ (ap (on_path path) (changed-behind change s p c (at-rest without_first n above) low))
          | inr low ↦ same-stays (s ∷ (n ∷ above)) (p ∷ path) _ _ (on-same path _ _ (changed-before change s p c low))
        ]
      ] refl out

-- the parent's own path stays
pub once-out-parent : (parent : List ℕ) (i : ℕ) → once_out (parent ++ i ∷ []) parent ≡ parent
once-out-parent [] i = refl
once-out-parent (p ∷ []) i = rw (eq-eqb p p refl) refl
once-out-parent (p ∷ (k ∷ path)) i = rw (eq-eqb p p refl) (ap (λ rest. p ∷ rest) (once-out-parent (k ∷ path) i))
