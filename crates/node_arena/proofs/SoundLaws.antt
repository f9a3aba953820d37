-- Documents whose trees change stay documents.
use Rattle.std.proofs.Common.{◌≡◌, ◌==◌, ◌<◌, ◌^◌, ℕ, zero, suc, IsTrue, List, [], ◌∷◌, ◌++◌, Option, Some, None, IsSomeAnd, option_map, refl, sym, ap, subst, inl, inr, arith, eqb-true}
use Rattle.std.proofs.lemmas.Option.{none-some, same_Some}
use Rattle.std.proofs.lemmas.Bool.{false≢true}
use Rattle.forest.specs.Forest.{Forest, Empty, Tree, size}
use Rattle.forest.specs.Keys.{Keyed, times, HasDistinctKeys, without_keys}
use Rattle.forest.specs.Spots.{Spot, spot, spot_of}
use Rattle.forest.specs.Changes.{put_children, splice}
use Rattle.forest.proofs.SpotLaws.{chosen, first_found, spot-counted, distinct-parts, root-once, below-or-after}
use Rattle.forest.proofs.ChangeLaws.{put_children-absent}
use Rattle.plain_types.specs.Tree.{IsOne, AreSound}
use Rattle.plain_types.specs.declared.node.Node.{Node}
use Rattle.plain_types.specs.declared.node.Node.TheVariants.{Element, Text}
use Rattle.node_arena.specs.AtPaths.{from_position, without_first}
use Rattle.node_arena.specs.Changes.{IsElementKey}
use Rattle.node_arena.specs.Copies.{is_element}
use Rattle.node_arena.specs.Document.{IsKeyedDocument, HasElementRoot}
use Rattle.node_arena.proofs.ToTree.{IsSoundAt, sound-root}

-- A node and what is in it.

pub sound-tree : (node : Node) (c : Forest (Keyed Node)) (r : Forest Node) → IsSoundAt node c → AreSound (without_keys c) → AreSound r → AreSound (Tree node (without_keys c) r)
sound-tree (Element name attrs) c r own below after = (own, below, after)
sound-tree (Text characters) c r own below after = (ap (λ t. without_keys t) own, after)

-- an element may have any children
pub sound-element : (node : Node) (c g : Forest (Keyed Node)) → IsTrue (is_element node) → IsSoundAt node c → IsSoundAt node g
sound-element (Element name attrs) c g element own = own
sound-element (Text characters) c g element own = absurd (false≢true element)

-- a node that has a node below it may have others there
pub sound-above : (node : Node) (c g : Forest (Keyed Node)) (q : ℕ) → 0 < times q c → IsSoundAt node c → IsSoundAt node g
sound-above (Element name attrs) c g q some own = own
sound-above (Text characters) c g q some own = absurd (let none : times q c ≡ 0 = ap (times q) own in omega arith)

-- a node that has a node below it is an element
pub above-element : (node : Node) (c : Forest (Keyed Node)) (q : ℕ) → 0 < times q c → IsSoundAt node c → IsTrue (is_element node)
above-element (Element name attrs) c q some own = refl
above-element (Text characters) c q some own = absurd (let none : times q c ≡ 0 = ap (times q) own in omega arith)

-- Children of a node, and trees among them.

pub sound-around : (f : Forest (Keyed Node)) (p : Option ℕ) (e : List (Keyed Node)) (q : ℕ) (s : Spot Node) → AreSound (without_keys f) → spot p e f q ≡ Some s → AreSound (without_keys s.children) × AreSound (without_keys s.after)
sound-around Empty p e q s h is = absurd (none-some s is)
sound-around (Tree n c r) p e q s h is =
    let parts = sound-root n.label c (without_keys r) h in
    elim (chosen (n.key == q) _ _ _ is) [
      | inl a ↦ subst (λ (t : Spot Node). AreSound (without_keys t.children) × AreSound (without_keys t.after)) (same_Some _ _ a.1) (parts.1, parts.2)
      | inr a ↦ elim (first_found _ _ s a.1) [
        | inl b ↦ sound-around c (Some n.key) [] q s parts.1 b
        | inr b ↦ sound-around r p (e ++ n ∷ []) q s parts.2 b.1
      ]
    ]

pub sound-cut : (i : ℕ) (c : Forest (Keyed Node)) → AreSound (without_keys c) → AreSound (without_keys (from_position without_first i c))
sound-cut zero Empty h = tt
sound-cut zero (Tree n d r) h = (sound-root n.label d (without_keys r) h).2
sound-cut (suc i) Empty h = tt
sound-cut (suc i) (Tree n d r) h =
    let parts = sound-root n.label d (without_keys r) h in
    sound-tree n.label d (without_keys (from_position without_first i r)) parts.0 parts.1 (sound-cut i r parts.2)

pub sound-splice : (i : ℕ) (m : Keyed Node) (t c : Forest (Keyed Node)) → IsSoundAt m.label t → AreSound (without_keys t) → AreSound (without_keys c) → AreSound (without_keys (splice i m t c))
sound-splice zero m t c own below h = sound-tree m.label t (without_keys c) own below h
sound-splice (suc i) m t Empty own below h = sound-tree m.label t Empty own below tt
sound-splice (suc i) m t (Tree n d r) own below h =
    let parts = sound-root n.label d (without_keys r) h in
    sound-tree n.label d (without_keys (splice i m t r)) parts.0 parts.1 (sound-splice i m t r own below parts.2)

-- A node has other children.

pub sound-put_children : (f : Forest (Keyed Node)) (p : Option ℕ) (e : List (Keyed Node)) (q : ℕ) (g : Forest (Keyed Node)) (s : Spot Node) → AreSound (without_keys f) → HasDistinctKeys f → spot p e f q ≡ Some s → IsTrue (is_element s.label) → AreSound (without_keys g) → AreSound (without_keys (put_children q g f))
sound-put_children Empty p e q g s h d is element below = tt
sound-put_children (Tree n c r) p e q g s h d is element below =
    let own = sound-root n.label c (without_keys r) h in
    let parts = distinct-parts n c r d in
    elim (chosen (n.key == q) _ _ _ is) [
      | inl a ↦
          let none : times q r ≡ 0 = subst (λ x. times x r ≡ 0) (eqb-true n.key q a.0) (root-once n c r d).1 in
          let label : n.label ≡ s.label = ap (λ t. t.label) (same_Some _ _ a.1) in
          rw (a.0, put_children-absent r q g none) (sound-tree n.label g (without_keys r) (sound-element n.label c g (subst (λ l. IsTrue (is_element l)) (sym label) element) own.0) below own.2)
      | inr a ↦ elim (first_found _ _ s a.1) [
        | inl b ↦
            let there : 0 < times q c = spot-counted c (Some n.key) [] q s b in
            let none : times q r ≡ 0 = omega (arith, d q) in
            rw (a.0, put_children-absent r q g none) (sound-tree n.label (put_children q g c) (without_keys r) (sound-above n.label c (put_children q g c) q there own.0) (sound-put_children c (Some n.key) [] q g s own.1 parts.0 b element below) own.2)
        | inr b ↦
            let none : times q c ≡ 0 = below-or-after n c r q d (spot-counted r p (e ++ n ∷ []) q s b.1) in
            rw (a.0, put_children-absent c q g none) (sound-tree n.label c (without_keys (put_children q g r)) own.0 own.1 (sound-put_children r p (e ++ n ∷ []) q g s own.2 parts.1 b.1 element below))
      ]
    ]

pub same-root : (node : Node) (c d r s : Forest Node) → HasElementRoot (Tree node c r) → HasElementRoot (Tree node d s)
same-root (Element name attrs) c d r s h = tt
same-root (Text characters) c d r s h = absurd h

root-put_children : (f : Forest (Keyed Node)) (q : ℕ) (g : Forest (Keyed Node)) → HasElementRoot (without_keys f) → HasElementRoot (without_keys (put_children q g f))
root-put_children Empty q g h = h
root-put_children (Tree n c r) q g h = same-root n.label _ _ _ _ h

one-put_children : (f : Forest (Keyed Node)) (q : ℕ) (g : Forest (Keyed Node)) → IsOne (without_keys f) → IsOne (without_keys (put_children q g f))
one-put_children Empty q g h = h
one-put_children (Tree n c Empty) q g h = refl
one-put_children (Tree n c (Tree m d r)) q g h = absurd (let e : Tree m.label (without_keys d) (without_keys r) ≡ Empty = h in cc)

pub document-put_children : (f : Forest (Keyed Node)) (q : ℕ) (g : Forest (Keyed Node)) (s : Spot Node) → IsKeyedDocument f → spot_of f q ≡ Some s → IsTrue (is_element s.label) → AreSound (without_keys g) → HasDistinctKeys (put_children q g f) → size (put_children q g f) < 2 ^ 64 → IsKeyedDocument (put_children q g f)
document-put_children f q g s d is element below distinct few = record {
  distinct = distinct;
  is_tree = record { one = one-put_children f q g d.is_tree.one; sound = sound-put_children f None [] q g s d.is_tree.sound d.distinct is element below };
  element = root-put_children f q g d.element;
  few = few;
}

-- where an element stands
abbrev pub StandsElement : Forest (Keyed Node) → ℕ → Type 0
StandsElement f q = (s : Spot Node) × (spot_of f q ≡ Some s) × IsTrue (is_element s.label)

pub element-spot : (f : Forest (Keyed Node)) (q : ℕ) → IsElementKey f q → StandsElement f q
element-spot f q h = found (spot_of f q) h
  where
    found : (o : Option (Spot Node)) → IsSomeAnd (option_map (λ (s : Spot Node). s.label) o) (λ (node : Node). IsTrue (is_element node)) → (s : Spot Node) × (o ≡ Some s) × IsTrue (is_element s.label)
    found None h = absurd h
    found (Some s) h = (s, refl, h)
