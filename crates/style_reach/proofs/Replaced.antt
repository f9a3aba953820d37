-- Documents in which one node has another label, or others stand under it.
use Rattle.std.proofs.Common.{◌≡◌, ◌==◌, ◌<◌, ◌≤◌, ◌+◌, ◌&&◌, ℕ, true, cond, List, [], ◌∷◌, ◌++◌, length, Option, Some, refl, sym, ap, subst, inl, inr, arith, eqb-true, eq-eqb}
use Rattle.std.proofs.lemmas.Option.{none-some, same_Some}
use Rattle.forest.specs.Forest.{Forest, Empty, Tree}
use Rattle.forest.specs.Keys.{Keyed, HasDistinctKeys, times, without_keys}
use Rattle.forest.specs.Spots.{Spot, keyed, spot}
use Rattle.forest.specs.Changes.{put_children, put_label}
use Rattle.forest.proofs.ChangeLaws.{put_children-absent}
use Rattle.forest.proofs.SpotLaws.{chosen, first_found, keyed-same, spot-counted, distinct-parts, root-once, below-or-after, the_spot, weigh-spot}
use Rattle.plain_types.specs.declared.attr.Attr.{Attr}
use Rattle.plain_types.specs.declared.node.Node.{Node}
use Rattle.plain_types.specs.declared.node.Node.TheVariants as node
use Rattle.node_arena.proofs.RelabelLaws.{put_label-absent}
use Rattle.selector_match.specs.Elements.{are_nothing}

module _ {L : Type 0} (key : ℕ) (old new : L) (before now : Forest (Keyed L)) where
  -- the node of this key had this label and these children, and has those
  pub data IsReplaced : Forest (Keyed L) → Forest (Keyed L) → Type 0 where
    here : (r : Forest (Keyed L)) → IsReplaced (Tree (keyed key old) before r) (Tree (keyed key new) now r)
    below : (n : Keyed L) (c c' r : Forest (Keyed L)) → IsReplaced c c' → IsReplaced (Tree n c r) (Tree n c' r)
    beside : (n : Keyed L) (c r r' : Forest (Keyed L)) → IsReplaced r r' → IsReplaced (Tree n c r) (Tree n c r')

  pub replaced-counted : (f g : Forest (Keyed L)) → IsReplaced f g → 0 < times key f
  replaced-counted _ _ (here r) = rw (eq-eqb key key refl) (omega arith)
  replaced-counted _ _ (below n c c' r deeper) = omega (arith, replaced-counted c c' deeper)
  replaced-counted _ _ (beside n c r r' later) = omega (arith, replaced-counted r r' later)

  -- how often a key comes
  pub replaced-times : (q : ℕ) (f g : Forest (Keyed L)) → IsReplaced f g → times q g + times q before ≡ times q f + times q now
  replaced-times q _ _ (here r) = omega arith
  replaced-times q _ _ (below n c c' r deeper) = omega (arith, replaced-times q c c' deeper)
  replaced-times q _ _ (beside n c r r' later) = omega (arith, replaced-times q r r' later)

module _ {L : Type 0} where
  -- a key comes under a node no more often than at all
  pub few : (f : Forest (Keyed L)) (p : Option ℕ) (e : List (Keyed L)) (g q : ℕ) (s : Spot L) → spot p e f g ≡ Some s → times q s.children ≤ times q f
  few f p e g q s is =
      let within : cond (g == q) 1 0 + (times q s.children + times q s.after) ≤ times q f = weigh-spot (λ (n : Keyed L). cond (n.key == q) 1 0) f p e g s is in
      omega arith

  -- Where the node is under another, it is replaced among what is under that one.
  module _ (key : ℕ) (old new : L) (before now : Forest (Keyed L)) (top : ℕ) (s : Spot L) (some : 0 < times key s.children) where
    -- what is now under the other
    abbrev Inside : Forest (Keyed L) → Forest (Keyed L) → Type 0
    Inside f g = (d : Forest (Keyed L)) × IsReplaced key old new before now s.children d × IsReplaced top s.label s.label s.children d f g

    top-here : (n : Keyed L) (c d r : Forest (Keyed L)) (p : Option ℕ) (e : List (Keyed L)) → (n.key == top) ≡ true → the_spot p e n.label c r ≡ s → IsReplaced key old new before now c d → Inside (Tree n c r) (Tree n d r)
    top-here n c d r p e is same deeper =
        let children : c ≡ s.children = ap (λ (t : Spot L). t.children) same in
        let node_is : n ≡ keyed top s.label = keyed-same n top s.label (eqb-true n.key top is) (ap (λ (t : Spot L). t.label) same) in (
          d,
          subst (λ x. IsReplaced key old new before now x d) children deeper,
          subst (λ m. IsReplaced top s.label s.label s.children d (Tree m c r) (Tree m d r)) (sym node_is)
              (subst (λ x. IsReplaced top s.label s.label s.children d (Tree (keyed top s.label) x r) (Tree (keyed top s.label) d r)) (sym children) (here r)),
        )

    pub replaced-under : (f g : Forest (Keyed L)) → IsReplaced key old new before now f g → (p : Option ℕ) (e : List (Keyed L)) → HasDistinctKeys f → spot p e f top ≡ Some s → Inside f g
    replaced-under _ _ (here r) p e d is =
        let twice : cond (key == key) 1 0 + (times key before + times key r) ≤ 1 = d key in
        let once : 1 + (times key before + times key r) ≤ 1 = rw (eq-eqb key key refl) at twice in
        elim (chosen (key == top) _ _ _ is) [
          | inl h ↦
              let children : before ≡ s.children = ap (λ (t : Spot L). t.children) (same_Some _ _ h.1) in
              absurd (omega (arith, ap (times key) children))
          | inr h ↦ elim (first_found _ _ s h.1) [
            | inl a ↦ let within : times key s.children ≤ times key before = few before (Some key) [] top key s a in absurd (omega arith)
            | inr b ↦ let within : times key s.children ≤ times key r = few r p (e ++ keyed key old ∷ []) top key s b.1 in absurd (omega arith)
          ]
        ]
    replaced-under _ _ (below n c c' r deeper) p e d is =
        let there : 0 < times key c = replaced-counted key old new before now c c' deeper in
        elim (chosen (n.key == top) _ _ _ is) [
          | inl h ↦ top-here n c c' r p e h.0 (same_Some _ _ h.1) deeper
          | inr h ↦ elim (first_found _ _ s h.1) [
            | inl a ↦
                let inner = replaced-under c c' deeper (Some n.key) [] (distinct-parts n c r d).0 a in
                (inner.0, inner.1, below n c c' r inner.2)
            | inr b ↦ let within : times key s.children ≤ times key r = few r p (e ++ n ∷ []) top key s b.1 in absurd (omega (arith, d key))
          ]
        ]
    replaced-under _ _ (beside n c r r' later) p e d is =
        let there : 0 < times key r = replaced-counted key old new before now r r' later in
        elim (chosen (n.key == top) _ _ _ is) [
          | inl h ↦
              let children : c ≡ s.children = ap (λ (t : Spot L). t.children) (same_Some _ _ h.1) in
              absurd (omega (arith, d key, ap (times key) children))
          | inr h ↦ elim (first_found _ _ s h.1) [
            | inl a ↦ let within : times key s.children ≤ times key c = few c (Some n.key) [] top key s a in absurd (omega (arith, d key))
            | inr b ↦
                let inner = replaced-under r r' later p (e ++ n ∷ []) (distinct-parts n c r d).1 b.1 in
                (inner.0, inner.1, beside n c r r' inner.2)
          ]
        ]

  -- what another list of children, and another label, make of a document
  pub put-children : (f : Forest (Keyed L)) (p : Option ℕ) (e : List (Keyed L)) (q : ℕ) (trees : Forest (Keyed L)) (s : Spot L) → HasDistinctKeys f → spot p e f q ≡ Some s
      → IsReplaced q s.label s.label s.children trees f (put_children q trees f)
  put-children Empty p e q trees s d is = absurd (none-some s is)
  put-children (Tree n c r) p e q trees s d is =
      let parts = distinct-parts n c r d in
      elim (chosen (n.key == q) _ _ _ is) [
        | inl h ↦
            let same : the_spot p e n.label c r ≡ s = same_Some _ _ h.1 in
            let key = eqb-true n.key q h.0 in
            let node_is : n ≡ keyed q s.label = keyed-same n q s.label key (ap (λ (t : Spot L). t.label) same) in
            rw (h.0, put_children-absent r q trees (subst (λ k. times k r ≡ 0) key (root-once n c r d).1))
            (subst (λ m. IsReplaced q s.label s.label s.children trees (Tree m c r) (Tree m trees r)) (sym node_is)
            (subst (λ g. IsReplaced q s.label s.label s.children trees (Tree (keyed q s.label) g r) (Tree (keyed q s.label) trees r)) (sym (ap (λ (t : Spot L). t.children) same)) (here r)))
        | inr h ↦ elim (first_found _ _ s h.1) [
          | inl a ↦
              let some : 0 < times q c = spot-counted c (Some n.key) [] q s a in
              let none : times q r ≡ 0 = omega (arith, d q) in
              rw (h.0, put_children-absent r q trees none) (below n c (put_children q trees c) r (put-children c (Some n.key) [] q trees s parts.0 a))
          | inr b ↦
              let none : times q c ≡ 0 = below-or-after n c r q d (spot-counted r p (e ++ n ∷ []) q s b.1) in
              rw (h.0, put_children-absent c q trees none) (beside n c r (put_children q trees r) (put-children r p (e ++ n ∷ []) q trees s parts.1 b.1))
        ]
      ]

  pub put-label : (f : Forest (Keyed L)) (p : Option ℕ) (e : List (Keyed L)) (q : ℕ) (l : L) (s : Spot L) → HasDistinctKeys f → spot p e f q ≡ Some s
      → IsReplaced q s.label l s.children s.children f (put_label q l f)
  put-label Empty p e q l s d is = absurd (none-some s is)
  put-label (Tree n c r) p e q l s d is =
      let parts = distinct-parts n c r d in
      elim (chosen (n.key == q) _ _ _ is) [
        | inl h ↦
            let same : the_spot p e n.label c r ≡ s = same_Some _ _ h.1 in
            let key = eqb-true n.key q h.0 in
            let node_is : n ≡ keyed q s.label = keyed-same n q s.label key (ap (λ (t : Spot L). t.label) same) in
            let once = root-once n c r d in
            rw (h.0, put_label-absent c q l (subst (λ k. times k c ≡ 0) key once.0), put_label-absent r q l (subst (λ k. times k r ≡ 0) key once.1))
            (subst (λ m. IsReplaced q s.label l s.children s.children (Tree m c r) (Tree (keyed q l) c r)) (sym node_is)
            (subst (λ g. IsReplaced q s.label l s.children s.children (Tree (keyed q s.label) g r) (Tree (keyed q l) g r)) (sym (ap (λ (t : Spot L). t.children) same)) (here r)))
        | inr h ↦ elim (first_found _ _ s h.1) [
          | inl a ↦
              let some : 0 < times q c = spot-counted c (Some n.key) [] q s a in
              let none : times q r ≡ 0 = omega (arith, d q) in
              rw (h.0, put_label-absent r q l none) (below n c (put_label q l c) r (put-label c (Some n.key) [] q l s parts.0 a))
          | inr b ↦
              let none : times q c ≡ 0 = below-or-after n c r q d (spot-counted r p (e ++ n ∷ []) q s b.1) in
              rw (h.0, put_label-absent c q l none) (beside n c r (put_label q l r) (put-label r p (e ++ n ∷ []) q l s parts.1 b.1))
        ]
      ]

-- whether there is an element or a character among trees is told by their roots
pub nothing-replaced : (q : ℕ) (name : List ℕ) (attrs attrs' : List Attr) (c c' f g : Forest (Keyed Node)) → IsReplaced q (node.Element name attrs) (node.Element name attrs') c c' f g
    → are_nothing (without_keys f) ≡ are_nothing (without_keys g)
nothing-replaced q name attrs attrs' c c' _ _ (here r) = refl
nothing-replaced q name attrs attrs' c c' _ _ (below n x x' r deeper) = by-label n.label
  where
    by-label : (l : Node) → are_nothing (without_keys (Tree (keyed n.key l) x r)) ≡ are_nothing (without_keys (Tree (keyed n.key l) x' r))
    by-label (node.Element name attrs) = refl
    by-label (node.Text characters) = refl
nothing-replaced q name attrs attrs' c c' _ _ (beside n x r r' later) = by-label n.label (nothing-replaced q name attrs attrs' c c' r r' later)
  where
    by-label : (l : Node) → are_nothing (without_keys r) ≡ are_nothing (without_keys r') → are_nothing (without_keys (Tree (keyed n.key l) x r)) ≡ are_nothing (without_keys (Tree (keyed n.key l) x r'))
    by-label (node.Element name attrs) h = refl
    by-label (node.Text characters) h = ap (λ b. (length characters == 0) && b) h
