-- Children that come and go: what trees weigh then, where they stand, and the way back.
use Rattle.std.proofs.Common.{◌≡◌, ◌==◌, ◌<◌, ◌≤◌, ◌+◌, ℕ, zero, suc, true, false, cond, List, [], ◌∷◌, ◌++◌, length, insert, remove, Option, Some, option_map, slice_get, refl, sym, ap, subst, ◌∙◌, inl, inr, arith, eqb-true}
use Rattle.std.proofs.lemmas.Option.{none-some, same_Some}
use Rattle.forest.specs.Forest.{Forest, Empty, Tree, weigh}
use Rattle.forest.specs.Keys.{Keyed, times, HasDistinctKeys}
use Rattle.forest.specs.Spots.{Spot, root_keys, spot, IsLive, parent_of, index_of, children_of, on_link}
use Rattle.forest.specs.Paths.{trees_from, on_path, key_at, path_of}
use Rattle.forest.specs.Changes.{put_children, splice}
use Rattle.forest.proofs.SpotLaws.{chosen, first_found, spot-counted, distinct-parts, root-once, below-or-after, the_spot}
use Rattle.forest.proofs.ChangeLaws.{put_children-absent}
use Rattle.forest.proofs.PathLaws.{key_at-path_of, key_at-child, on_path-append, parent-live}
use Rattle.forest.proofs.SiblingLaws.{child-index}
use Rattle.plain_types.specs.declared.node.Node.{Node}
use Rattle.node_arena.specs.AtPaths.{from_position, without_first, first_children}
use Rattle.node_arena.specs.Changes.{alone, HasBodies}
use Rattle.node_arena.specs.Children.{with_place}
use Rattle.node_arena.specs.Document.{IsKeyedDocument}
use Rattle.node_arena.specs.Entries.{Links, HasEntries}
use Rattle.node_arena.proofs.AtPathLaws.{from-empty}
use Rattle.node_arena.proofs.EntryLaws.{one-tree}
use Rattle.node_arena.proofs.KeyAtLaws.{on-link-at, children-at}

module _ {L : Type 0} where
  -- Among siblings.

  pub cut-roots : (i : ℕ) (c : Forest (Keyed L)) → root_keys (from_position without_first i c) ≡ remove (root_keys c) i
  cut-roots zero Empty = refl
  cut-roots zero (Tree n d r) = refl
  cut-roots (suc i) Empty = refl
  cut-roots (suc i) (Tree n d r) = ap (λ ks. n.key ∷ ks) (cut-roots i r)

  pub splice-roots : (i : ℕ) (m : Keyed L) (t c : Forest (Keyed L)) → i ≤ length (root_keys c) → root_keys (splice i m t c) ≡ insert (root_keys c) i m.key
  splice-roots zero m t Empty low = refl
  splice-roots zero m t (Tree n d r) low = refl
  splice-roots (suc i) m t Empty low = absurd (omega arith)
  splice-roots (suc i) m t (Tree n d r) low = ap (λ ks. n.key ∷ ks) (splice-roots i m t r (omega arith))

  pub before-cut : (i index : ℕ) (c : Forest (Keyed L)) → index < i → slice_get (root_keys (from_position without_first i c)) index ≡ slice_get (root_keys c) index
  before-cut zero index c low = absurd (omega arith)
  before-cut (suc i) index Empty low = refl
  before-cut (suc i) zero (Tree n d r) low = refl
  before-cut (suc i) (suc index) (Tree n d r) low = before-cut i index r (omega arith)

  pub before-splice : (i index : ℕ) (m : Keyed L) (t c : Forest (Keyed L)) → i ≤ length (root_keys c) → index < i → slice_get (root_keys (splice i m t c)) index ≡ slice_get (root_keys c) index
  before-splice zero index m t c high low = absurd (omega arith)
  before-splice (suc i) index m t Empty high low = absurd (omega arith)
  before-splice (suc i) zero m t (Tree n d r) high low = refl
  before-splice (suc i) (suc index) m t (Tree n d r) high low = before-splice i index m t r (omega arith) (omega arith)

  pub spliced-there : (i : ℕ) (m : Keyed L) (t c : Forest (Keyed L)) → i ≤ length (root_keys c) → trees_from i (splice i m t c) ≡ Tree m t (trees_from i c)
  spliced-there zero m t c low = refl
  spliced-there (suc i) m t Empty low = absurd (omega arith)
  spliced-there (suc i) m t (Tree n d r) low = spliced-there i m t r (omega arith)

  pub cut-splice : (i : ℕ) (m : Keyed L) (t c : Forest (Keyed L)) → i ≤ length (root_keys c) → from_position without_first i (splice i m t c) ≡ c
  cut-splice zero m t c low = refl
  cut-splice (suc i) m t Empty low = absurd (omega arith)
  cut-splice (suc i) m t (Tree n d r) low = ap (λ s. Tree n d s) (cut-splice i m t r (omega arith))

  pub splice-cut : (i : ℕ) (m : Keyed L) (t s c : Forest (Keyed L)) → trees_from i c ≡ Tree m t s → splice i m t (from_position without_first i c) ≡ c
  splice-cut zero m t s Empty is = absurd (cc)
  splice-cut zero m t s (Tree n d r) is = let key : n ≡ m = cc in let inside : d ≡ t = cc in (λ i. Tree (sym key i) (sym inside i) r)
  splice-cut (suc i) m t s Empty is = absurd (cc)
  splice-cut (suc i) m t s (Tree n d r) is = ap (λ x. Tree n d x) (splice-cut i m t s r is)

  pub weigh-cut : (w : Keyed L → ℕ) (i : ℕ) (c : Forest (Keyed L)) → weigh w (from_position without_first i c) + weigh w (alone (trees_from i c)) ≡ weigh w c
  weigh-cut w zero Empty = refl
  weigh-cut w zero (Tree n d r) = omega arith
  weigh-cut w (suc i) Empty = refl
  weigh-cut w (suc i) (Tree n d r) = omega (arith, weigh-cut w i r)

  -- In a tree.

  pub put_children-twice : (f : Forest (Keyed L)) (q : ℕ) (a b : Forest (Keyed L)) → put_children q a (put_children q b f) ≡ put_children q a f
  put_children-twice Empty q a b = refl
  put_children-twice (Tree n c r) q a b =
      elim (n.key == q) as (λ t. Tree n (cond t a (put_children q a (cond t b (put_children q b c)))) (put_children q a (put_children q b r)) ≡ Tree n (cond t a (put_children q a c)) (put_children q a r)) [
        | true ↦ ap (λ s. Tree n a s) (put_children-twice r q a b)
        | false ↦ rw (put_children-twice c q a b, put_children-twice r q a b) refl
      ]

  pub put_children-own : (f : Forest (Keyed L)) (p : Option ℕ) (e : List (Keyed L)) (q : ℕ) (s : Spot L) → HasDistinctKeys f → spot p e f q ≡ Some s → put_children q s.children f ≡ f
  put_children-own Empty p e q s d is = refl
  put_children-own (Tree n c r) p e q s d is =
      let parts = distinct-parts n c r d in
      elim (chosen (n.key == q) _ _ _ is) [
        | inl h ↦
            let none : times q r ≡ 0 = subst (λ x. times x r ≡ 0) (eqb-true n.key q h.0) (root-once n c r d).1 in
            let its : c ≡ s.children = ap (λ t. t.children) (same_Some _ _ h.1) in
            rw (h.0, put_children-absent r q s.children none, its) refl
        | inr h ↦ elim (first_found _ _ s h.1) [
          | inl a ↦
              let there : 0 < times q c = spot-counted c (Some n.key) [] q s a in
              let none : times q r ≡ 0 = omega (arith, d q) in
              rw (h.0, put_children-absent r q s.children none, put_children-own c (Some n.key) [] q s parts.0 a) refl
          | inr b ↦
              let none : times q c ≡ 0 = below-or-after n c r q d (spot-counted r p (e ++ n ∷ []) q s b.1) in
              rw (h.0, put_children-absent c q s.children none, put_children-own r p (e ++ n ∷ []) q s parts.1 b.1) refl
        ]
      ]

  -- where a node stands whose children are others
  pub spot-put_children : (f : Forest (Keyed L)) (p : Option ℕ) (e : List (Keyed L)) (q : ℕ) (g : Forest (Keyed L)) (s : Spot L) → HasDistinctKeys f → spot p e f q ≡ Some s → spot p e (put_children q g f) q ≡ Some (the_spot s.parent s.earlier s.label g s.after)
  spot-put_children Empty p e q g s d is = absurd (none-some s is)
  spot-put_children (Tree n c r) p e q g s d is =
      let parts = distinct-parts n c r d in
      elim (chosen (n.key == q) _ _ _ is) [
        | inl h ↦
            let none : times q r ≡ 0 = subst (λ x. times x r ≡ 0) (eqb-true n.key q h.0) (root-once n c r d).1 in
            rw (h.0, put_children-absent r q g none, ← same_Some _ _ h.1) refl
        | inr h ↦ elim (first_found _ _ s h.1) [
          | inl a ↦
              let there : 0 < times q c = spot-counted c (Some n.key) [] q s a in
              let none : times q r ≡ 0 = omega (arith, d q) in
              rw (h.0, put_children-absent r q g none, spot-put_children c (Some n.key) [] q g s parts.0 a) refl
          | inr b ↦
              let none : times q c ≡ 0 = below-or-after n c r q d (spot-counted r p (e ++ n ∷ []) q s b.1) in
              rw (h.0, put_children-absent c q g none, b.0, spot-put_children r p (e ++ n ∷ []) q g s parts.1 b.1) refl
        ]
      ]

-- the trees from a node on are those of the parent from its index on
pub child-tree : (f : Forest (Keyed Node)) (q x : ℕ) → IsKeyedDocument f → IsLive f q → parent_of f q ≡ Some x → trees_from (index_of f q) (children_of f x) ≡ on_link f (Some q)
child-tree f q x d live e =
    let above : IsLive f x = parent-live f q x d.distinct live e in
    let path : List ℕ = path_of f x in
    let at_x : key_at f path ≡ Some x = key_at-path_of f x (one-tree f d) above in
    let at_q : key_at f (path ++ index_of f q ∷ []) ≡ Some q = key_at-child f path x (index_of f q) d.distinct at_x ∙ child-index f q x d.distinct live e in
    ap (trees_from (index_of f q)) (sym (children-at f path x d.distinct at_x))
    ∙ sym (on_path-append path (index_of f q ∷ []) f ∙ on-one (index_of f q) (on_path path f))
    ∙ on-link-at f (path ++ index_of f q ∷ []) q d.distinct at_q
  where
    on-one : (i : ℕ) (g : Forest (Keyed Node)) → on_path (i ∷ []) g ≡ trees_from i (first_children g)
    on-one i Empty = sym (from-empty i)
    on-one i (Tree n c r) = refl

module _ (at : ℕ → Option Links) where
  pub bodies-entries : (g : Forest (Keyed Node)) (p : Option ℕ) (i : ℕ) → HasEntries at p i g → HasBodies at g
  bodies-entries Empty p i h = tt
  bodies-entries (Tree n c r) p i h = ((p, i, h.0), h.1, bodies-entries r p (i + 1) h.2)

  pub bodies-cut : (i : ℕ) (c : Forest (Keyed Node)) → HasBodies at c → HasBodies at (from_position without_first i c)
  bodies-cut zero Empty h = tt
  bodies-cut zero (Tree n d r) h = h.2
  bodies-cut (suc i) Empty h = tt
  bodies-cut (suc i) (Tree n d r) h = (h.0, h.1, bodies-cut i r h.2)

  pub bodies-splice : (i : ℕ) (m : Keyed Node) (t s c : Forest (Keyed Node)) → HasBodies at (Tree m t s) → HasBodies at c → HasBodies at (splice i m t c)
  bodies-splice zero m t s c own h = (own.0, own.1, h)
  bodies-splice (suc i) m t s Empty own h = (own.0, own.1, tt)
  bodies-splice (suc i) m t s (Tree n d r) own h = (h.0, h.1, bodies-splice i m t s r own h.2)

  pub bodies-from : (i : ℕ) (c : Forest (Keyed Node)) → HasBodies at c → HasBodies at (trees_from i c)
  bodies-from zero c h = h
  bodies-from (suc i) Empty h = tt
  bodies-from (suc i) (Tree n d r) h = bodies-from i r h.2

  pub bodies-alone : (c : Forest (Keyed Node)) → HasBodies at c → HasBodies at (alone c)
  bodies-alone Empty h = tt
  bodies-alone (Tree n d r) h = (h.0, h.1, tt)

  -- the children of a node have their places
  pub entries-placed : (g : Forest (Keyed Node)) (q i index child : ℕ) → HasEntries at (Some q) i g → slice_get (root_keys g) index ≡ Some child → option_map (with_place q (i + index)) (at child) ≡ at child
  entries-placed Empty q i index child h e = absurd (none-some child e)
  entries-placed (Tree n c r) q i zero child h e =
      let place : i + 0 ≡ i = omega arith in
      rw (← same_Some _ _ e, h.0, place) refl
  entries-placed (Tree n c r) q i (suc index) child h e =
      let place : i + suc index ≡ i + 1 + index = omega arith in
      rw place (entries-placed r q (i + 1) index child h.2 e)
