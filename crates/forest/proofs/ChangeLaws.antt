-- What a forest weighs once a part of it is replaced, and where the replaced parts stand.
use Rattle.std.proofs.Common.{◌≡◌, ◌==◌, ◌<◌, ◌+◌, ℕ, zero, suc, true, false, cond, List, [], ◌∷◌, ◌++◌, Option, Some, refl, sym, ap, subst, inl, inr, arith, eqb-true, eq-eqb}
use Rattle.std.proofs.lemmas.Option.{none-some, same_Some}
use Rattle.forest.specs.Forest.{Forest, Empty, Tree, weigh, then_tree}
use Rattle.forest.specs.Keys.{Keyed, times, HasDistinctKeys}
use Rattle.forest.specs.Spots.{Spot, spot}
use Rattle.forest.specs.Paths.{trees_from}
use Rattle.forest.specs.Changes.{put_children, put_after, splice}
use Rattle.forest.proofs.SpotLaws.{chosen, first_found, spot-counted, distinct-parts, root-once, below-or-after, not-root, weigh-spot}

module _ {L : Type 0} where
  -- nothing changes under a key that no node has
  pub put_children-absent : (f : Forest (Keyed L)) (q : ℕ) (g : Forest (Keyed L)) → times q f ≡ 0 → put_children q g f ≡ f
  put_children-absent Empty q g e = refl
  put_children-absent (Tree n c r) q g e =
      elim (n.key == q) as (λ b. cond b 1 0 + (times q c + times q r) ≡ 0 → Tree n (cond b g (put_children q g c)) (put_children q g r) ≡ Tree n c r) [
        | true ↦ λ e. absurd (omega arith)
        | false ↦ λ e. rw (put_children-absent c q g (omega arith), put_children-absent r q g (omega arith)) refl
      ] e

  pub put_after-absent : (f : Forest (Keyed L)) (q : ℕ) (g : Forest (Keyed L)) → times q f ≡ 0 → put_after q g f ≡ f
  put_after-absent Empty q g e = refl
  put_after-absent (Tree n c r) q g e =
      elim (n.key == q) as (λ b. cond b 1 0 + (times q c + times q r) ≡ 0 → Tree n (put_after q g c) (cond b g (put_after q g r)) ≡ Tree n c r) [
        | true ↦ λ e. absurd (omega arith)
        | false ↦ λ e. rw (put_after-absent c q g (omega arith), put_after-absent r q g (omega arith)) refl
      ] e

  -- what other children weigh more or less
  pub weigh-put_children : (w : Keyed L → ℕ) (f : Forest (Keyed L)) (p : Option ℕ) (e : List (Keyed L)) (q : ℕ) (g : Forest (Keyed L)) (s : Spot L) → HasDistinctKeys f → spot p e f q ≡ Some s → weigh w (put_children q g f) + weigh w s.children ≡ weigh w f + weigh w g
  weigh-put_children w Empty p e q g s d is = absurd (none-some s is)
  weigh-put_children w (Tree n c r) p e q g s d is =
      let parts = distinct-parts n c r d in
      elim (chosen (n.key == q) _ _ _ is) [
        | inl h ↦
            let none : times q r ≡ 0 = subst (λ x. times x r ≡ 0) (eqb-true n.key q h.0) (root-once n c r d).1 in
            let its : c ≡ s.children = ap (λ t. t.children) (same_Some _ _ h.1) in
            rw (h.0, put_children-absent r q g none, ← its) (omega arith)
        | inr h ↦ elim (first_found _ _ s h.1) [
          | inl a ↦
              let none : times q r ≡ 0 = omega (arith, d q, spot-counted c (Some n.key) [] q s a) in
              rw (h.0, put_children-absent r q g none) (omega (arith, weigh-put_children w c (Some n.key) [] q g s parts.0 a))
          | inr b ↦
              let none : times q c ≡ 0 = omega (arith, d q, spot-counted r p (e ++ n ∷ []) q s b.1) in
              rw (h.0, put_children-absent c q g none) (omega (arith, weigh-put_children w r p (e ++ n ∷ []) q g s parts.1 b.1))
        ]
      ]

  -- what other trees after a node weigh more or less
  pub weigh-put_after : (w : Keyed L → ℕ) (f : Forest (Keyed L)) (p : Option ℕ) (e : List (Keyed L)) (q : ℕ) (g : Forest (Keyed L)) (s : Spot L) → HasDistinctKeys f → spot p e f q ≡ Some s → weigh w (put_after q g f) + weigh w s.after ≡ weigh w f + weigh w g
  weigh-put_after w Empty p e q g s d is = absurd (none-some s is)
  weigh-put_after w (Tree n c r) p e q g s d is =
      let parts = distinct-parts n c r d in
      elim (chosen (n.key == q) _ _ _ is) [
        | inl h ↦
            let none : times q c ≡ 0 = subst (λ x. times x c ≡ 0) (eqb-true n.key q h.0) (root-once n c r d).0 in
            let its : r ≡ s.after = ap (λ t. t.after) (same_Some _ _ h.1) in
            rw (h.0, put_after-absent c q g none, ← its) (omega arith)
        | inr h ↦ elim (first_found _ _ s h.1) [
          | inl a ↦
              let none : times q r ≡ 0 = omega (arith, d q, spot-counted c (Some n.key) [] q s a) in
              rw (h.0, put_after-absent r q g none) (omega (arith, weigh-put_after w c (Some n.key) [] q g s parts.0 a))
          | inr b ↦
              let none : times q c ≡ 0 = omega (arith, d q, spot-counted r p (e ++ n ∷ []) q s b.1) in
              rw (h.0, put_after-absent c q g none) (omega (arith, weigh-put_after w r p (e ++ n ∷ []) q g s parts.1 b.1))
        ]
      ]

  -- a tree put among siblings weighs what it weighs
  pub weigh-splice : (w : Keyed L → ℕ) (i : ℕ) (m : Keyed L) (c g : Forest (Keyed L)) → weigh w (splice i m c g) ≡ weigh w g + (w m + weigh w c)
  weigh-splice w zero m c g = omega arith
  weigh-splice w (suc i) m c Empty = omega arith
  weigh-splice w (suc i) m c (Tree n d r) = omega (arith, weigh-splice w i m c r)

  pub weigh-then_tree : (w : Keyed L → ℕ) (g : Forest (Keyed L)) (m : Keyed L) (c : Forest (Keyed L)) → weigh w (then_tree g m c) ≡ weigh w g + (w m + weigh w c)
  weigh-then_tree w Empty m c = omega arith
  weigh-then_tree w (Tree n d r) m c = omega (arith, weigh-then_tree w r m c)

  counted-from : (g : Forest (Keyed L)) (i : ℕ) (m : Keyed L) (c r : Forest (Keyed L)) → trees_from i g ≡ Tree m c r → 0 < times m.key g
  counted-from Empty zero m c r e = absurd (cc)
  counted-from Empty (suc i) m c r e = absurd (cc)
  counted-from (Tree n c0 r0) zero m c r e = let same : n ≡ m = cc in rw (eq-eqb n.key m.key (ap (λ x. x.key) same)) (omega arith)
  counted-from (Tree n c0 r0) (suc i) m c r e = omega (arith, counted-from r0 i m c r e)

  -- among siblings: a tree put after the one of this position
  among : (g : Forest (Keyed L)) (i : ℕ) (m new : Keyed L) (inside c r : Forest (Keyed L)) → HasDistinctKeys g → trees_from i g ≡ Tree m c r → put_after m.key (Tree new inside r) g ≡ splice (suc i) new inside g
  among Empty zero m new inside c r d e = absurd (cc)
  among Empty (suc i) m new inside c r d e = absurd (cc)
  among (Tree n c0 r0) zero m new inside c r d e =
      let same : n ≡ m = cc in
      let rest : r0 ≡ r = cc in
      let none : times m.key c0 ≡ 0 = subst (λ x. times x c0 ≡ 0) (ap (λ x. x.key) same) (root-once n c0 r0 d).0 in
      rw (eq-eqb n.key m.key (ap (λ x. x.key) same), put_after-absent c0 m.key (Tree new inside r) none, rest) refl
  among (Tree n c0 r0) (suc i) m new inside c r d e =
      let parts = distinct-parts n c0 r0 d in
      let there : 0 < times m.key r0 = counted-from r0 i m c r e in
      rw (not-root n c0 r0 m.key d (omega arith), put_after-absent c0 m.key (Tree new inside r) (below-or-after n c0 r0 m.key d there), among r0 i m new inside c r parts.1 e) refl

  -- a child of a node is counted
  counted-child : (f : Forest (Keyed L)) (p : Option ℕ) (e : List (Keyed L)) (q : ℕ) (t : Spot L) (i : ℕ) (m : Keyed L) (c r : Forest (Keyed L)) → spot p e f q ≡ Some t → trees_from i t.children ≡ Tree m c r → 0 < times m.key f
  counted-child f p e q t i m c r is at = omega (arith, counted-from t.children i m c r at, weigh-spot (λ (n : Keyed L). cond (n.key == m.key) 1 0) f p e q t is)

  -- a tree put after the child of this position is a tree put among the children
  pub put_after-child : (f : Forest (Keyed L)) (p : Option ℕ) (e : List (Keyed L)) (q : ℕ) (t : Spot L) (i : ℕ) (m new : Keyed L) (inside c r : Forest (Keyed L)) → HasDistinctKeys f → spot p e f q ≡ Some t → trees_from i t.children ≡ Tree m c r → put_after m.key (Tree new inside r) f ≡ put_children q (splice (suc i) new inside t.children) f
  put_after-child Empty p e q t i m new inside c r d is at = absurd (none-some t is)
  put_after-child (Tree n c0 r0) p e q t i m new inside c r d is at =
      let parts = distinct-parts n c0 r0 d in
      let g : Forest (Keyed L) = Tree new inside r in
      let all : Forest (Keyed L) = splice (suc i) new inside t.children in
      elim (chosen (n.key == q) _ _ _ is) [
        | inl h ↦
            let its : t.children ≡ c0 = sym (ap (λ x. x.children) (same_Some _ _ h.1)) in
            let at0 : trees_from i c0 ≡ Tree m c r = subst (λ x. trees_from i x ≡ Tree m c r) its at in
            let there : 0 < times m.key c0 = counted-from c0 i m c r at0 in
            let none : times m.key r0 ≡ 0 = omega (arith, d m.key) in
            let not_q : times q r0 ≡ 0 = subst (λ x. times x r0 ≡ 0) (eqb-true n.key q h.0) (root-once n c0 r0 d).1 in
            rw (h.0, not-root n c0 r0 m.key d (omega arith), put_after-absent r0 m.key g none, put_children-absent r0 q all not_q, its, among c0 i m new inside c r parts.0 at0) refl
        | inr h ↦ elim (first_found _ _ t h.1) [
          | inl a ↦
              let there : 0 < times m.key c0 = counted-child c0 (Some n.key) [] q t i m c r a at in
              let none : times m.key r0 ≡ 0 = omega (arith, d m.key) in
              let not_q : times q r0 ≡ 0 = omega (arith, d q, spot-counted c0 (Some n.key) [] q t a) in
              rw (h.0, not-root n c0 r0 m.key d (omega arith), put_after-absent r0 m.key g none, put_children-absent r0 q all not_q, put_after-child c0 (Some n.key) [] q t i m new inside c r parts.0 a at) refl
          | inr b ↦
              let there : 0 < times m.key r0 = counted-child r0 p (e ++ n ∷ []) q t i m c r b.1 at in
              let none : times m.key c0 ≡ 0 = below-or-after n c0 r0 m.key d there in
              let not_q : times q c0 ≡ 0 = below-or-after n c0 r0 q d (spot-counted r0 p (e ++ n ∷ []) q t b.1) in
              rw (h.0, not-root n c0 r0 m.key d (omega arith), put_after-absent c0 m.key g none, put_children-absent c0 q all not_q, put_after-child r0 p (e ++ n ∷ []) q t i m new inside c r parts.1 b.1 at) refl
        ]
      ]
