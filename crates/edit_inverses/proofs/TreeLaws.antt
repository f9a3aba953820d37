-- Trees that come where others went, and go where they came.
use Rattle.std.proofs.Common.{◌≡◌, ◌<◌, ◌≤◌, ℕ, zero, suc, List, [], ◌∷◌, ◌++◌, length, Some, refl, sym, ap, ◌∙◌, arith}
use Rattle.std.proofs.lemmas.Option.{none-some}
use Rattle.forest.specs.Forest.{Forest, Empty, Tree}
use Rattle.forest.specs.Spots.{roots}
use Rattle.forest.specs.Paths.{on_path, trees_from}
use Rattle.forest.specs.Changes.{splice}
use Rattle.node_arena.specs.AtPaths.{at_path, first_children, first_label, from_position, inserted_at, removed_at, with_children, with_tree, without_first}
use Rattle.node_arena.proofs.AtPathLaws.{count-without, from-empty, on-changed, removed-child}
use Rattle.same_documents.specs.Sameness.{AreAlike}
use Rattle.same_documents.proofs.AlikeLaws.{alike_refl}
use Rattle.edit_inverses.specs.Inverses.{child_at}

module _ {L : Type 0} where
  -- Changes one after the other.

  from_both : (first second : Forest L → Forest L) (i : ℕ) (x : Forest L) → from_position second i (from_position first i x) ≡ from_position (λ y. second (first y)) i x
  from_both first second zero x = refl
  from_both first second (suc i) Empty = refl
  from_both first second (suc i) (Tree n c r) = ap (λ rest. Tree n c rest) (from_both first second i r)

  from_same : (first second : Forest L → Forest L) → ((x : Forest L) → first x ≡ second x) → (i : ℕ) (x : Forest L) → from_position first i x ≡ from_position second i x
  from_same first second same zero x = same x
  from_same first second same (suc i) Empty = refl
  from_same first second same (suc i) (Tree n c r) = ap (λ rest. Tree n c rest) (from_same first second same i r)

  pub at_both : (first second : Forest L → Forest L) (path : List ℕ) (x : Forest L) → at_path second path (at_path first path x) ≡ at_path (λ y. second (first y)) path x
  at_both first second [] x = refl
  at_both first second (p ∷ path) Empty = refl
  at_both first second (p ∷ path) (Tree n c r) =
      ap (λ d. Tree n d r)
      (from_both (at_path first path) (at_path second path) p c
      ∙ from_same (λ y. at_path second path (at_path first path y)) (at_path (λ y. second (first y)) path) (at_both first second path) p c)

  -- a change that leaves what stands there leaves all
  from_fixed : (change : Forest L → Forest L) (i : ℕ) (x : Forest L) → change (trees_from i x) ≡ trees_from i x → from_position change i x ≡ x
  from_fixed change zero x e = e
  from_fixed change (suc i) Empty e = refl
  from_fixed change (suc i) (Tree n c r) e = ap (λ rest. Tree n c rest) (from_fixed change i r e)

  pub at_fixed : (change : Forest L → Forest L) (path : List ℕ) (x : Forest L) → change (on_path path x) ≡ on_path path x → at_path change path x ≡ x
  at_fixed change [] x e = e
  at_fixed change (p ∷ path) Empty e = refl
  at_fixed change (p ∷ path) (Tree n c r) e = ap (λ d. Tree n d r) (from_fixed (at_path change path) p c (at_fixed change path (trees_from p c) e))

  -- and one that leaves it alike leaves all alike
  module _ (R : L → L → Type 0) (itself : (label : L) → R label label) where
    from_alike : (change : Forest L → Forest L) (i : ℕ) (x : Forest L) → AreAlike R (change (trees_from i x)) (trees_from i x) → AreAlike R (from_position change i x) x
    from_alike change zero x h = h
    from_alike change (suc i) Empty h = tt
    from_alike change (suc i) (Tree n c r) h = (itself n, alike_refl R itself c, from_alike change i r h)

    pub at_alike : (change : Forest L → Forest L) (path : List ℕ) (x : Forest L) → AreAlike R (change (on_path path x)) (on_path path x) → AreAlike R (at_path change path x) x
    at_alike change [] x h = h
    at_alike change (p ∷ path) Empty h = tt
    at_alike change (p ∷ path) (Tree n c r) h = (itself n, from_alike (at_path change path) p c (at_alike change path (trees_from p c) h), alike_refl R itself r)

  -- What stands at a path.

  on_nothing : (path : List ℕ) → on_path {L = L} path Empty ≡ Empty
  on_nothing [] = refl
  on_nothing (p ∷ path) = refl

  pub on_append : (first rest : List ℕ) (x : Forest L) → on_path (first ++ rest) x ≡ on_path rest (on_path first x)
  on_append [] rest x = refl
  on_append (p ∷ first) rest Empty = sym (on_nothing rest)
  on_append (p ∷ first) rest (Tree n c r) = on_append first rest (trees_from p c)

  on_child : (index : ℕ) (x : Forest L) → on_path (index ∷ []) x ≡ trees_from index (first_children x)
  on_child index Empty = sym (from-empty index)
  on_child index (Tree n c r) = refl

  -- the children of the node at a path, from one on
  pub on_child_at : (parent : List ℕ) (index : ℕ) (x : Forest L) → on_path (child_at parent index) x ≡ trees_from index (first_children (on_path parent x))
  on_child_at parent index x = on_append parent (index ∷ []) x ∙ on_child index (on_path parent x)

  -- a node stands first
  pub record StandsFirst (x : Forest L) : Type 0 where
    pub label : L
    pub children : Forest L
    pub after : Forest L
    pub is : x ≡ Tree label children after

  pub stands_first : (x : Forest L) (label : L) → first_label x ≡ Some label → StandsFirst x
  stands_first Empty label e = absurd (none-some label e)
  stands_first (Tree n c r) label e = record { label = n; children = c; after = r; is = refl }

  pub within : (i : ℕ) (c : Forest L) (m : L) (t s : Forest L) → trees_from i c ≡ Tree m t s → i < length (roots c)
  within i Empty m t s e = absurd (let none : Empty ≡ Tree m t s = sym (from-empty i) ∙ e in cc)
  within zero (Tree n d r) m t s e = omega arith
  within (suc i) (Tree n d r) m t s e = omega (arith, within i r m t s e)

  -- A tree among others, and then without it, and the other way round.

  pub spliced_there : (i : ℕ) (m : L) (t c : Forest L) → i ≤ length (roots c) → trees_from i (splice i m t c) ≡ Tree m t (trees_from i c)
  spliced_there zero m t c low = refl
  spliced_there (suc i) m t Empty low = absurd (omega arith)
  spliced_there (suc i) m t (Tree n d r) low = spliced_there i m t r (omega arith)

  cut_spliced : (i : ℕ) (m : L) (t c : Forest L) → i ≤ length (roots c) → from_position without_first i (splice i m t c) ≡ c
  cut_spliced zero m t c low = refl
  cut_spliced (suc i) m t Empty low = absurd (omega arith)
  cut_spliced (suc i) m t (Tree n d r) low = ap (λ rest. Tree n d rest) (cut_spliced i m t r (omega arith))

  spliced_cut : (i : ℕ) (m : L) (t s c : Forest L) → trees_from i c ≡ Tree m t s → splice i m t (from_position without_first i c) ≡ c
  spliced_cut i m t s Empty e = absurd (let none : Empty ≡ Tree m t s = sym (from-empty i) ∙ e in cc)
  spliced_cut zero m t s (Tree n d r) e = let label : n ≡ m = cc in let below : d ≡ t = cc in rw (label, below) refl
  spliced_cut (suc i) m t s (Tree n d r) e = ap (λ rest. Tree n d rest) (spliced_cut i m t s r e)

  -- Edits: the first tree of a forest is inserted.

  -- a node stands at the path, and so many children of it
  pub record HasPlace (parent : List ℕ) (index : ℕ) (x : Forest L) : Type 0 where
    pub first : StandsFirst (on_path parent x)
    pub low : index ≤ length (roots first.children)

  module _ (parent : List ℕ) (index : ℕ) (x : Forest L) (m : L) (t s : Forest L) (place : HasPlace parent index x) where
    abbrev put : Forest L → Forest L
    put = with_children (with_tree index (Tree m t s))

    abbrev cut : Forest L → Forest L
    cut = with_children (from_position without_first index)

    at_place : on_path parent (inserted_at parent index (Tree m t s) x) ≡ Tree place.first.label (splice index m t place.first.children) place.first.after
    at_place = on-changed put parent x refl ∙ ap put place.first.is

    -- the tree stands there
    pub inserted_there : on_path (child_at parent index) (inserted_at parent index (Tree m t s) x) ≡ Tree m t (trees_from index place.first.children)
    inserted_there =
        on_child_at parent index (inserted_at parent index (Tree m t s) x)
        ∙ ap (λ y. trees_from index (first_children y)) at_place
        ∙ spliced_there index m t place.first.children place.low

    -- and once it is removed, all is as it was
    pub removed_inserted : removed_at (child_at parent index) (inserted_at parent index (Tree m t s) x) ≡ x
    removed_inserted =
        removed-child parent index (inserted_at parent index (Tree m t s) x)
        ∙ at_both put cut parent x
        ∙ at_fixed (λ y. cut (put y)) parent x
        (ap (λ y. cut (put y)) place.first.is
        ∙ ap (λ c. Tree place.first.label c place.first.after) (cut_spliced index m t place.first.children place.low)
        ∙ sym place.first.is)

  -- A node that is the child of this index of the node at a path.
  pub record IsChild (parent : List ℕ) (index : ℕ) (x : Forest L) (m : L) (t : Forest L) : Type 0 where
    pub above : StandsFirst (on_path parent x)
    pub behind : Forest L
    pub child : trees_from index above.children ≡ Tree m t behind

  pub is_child : (parent : List ℕ) (index : ℕ) (x : Forest L) (m : L) (t s : Forest L) → on_path (child_at parent index) x ≡ Tree m t s → IsChild parent index x m t
  is_child parent index x m t s e = found (on_path parent x) refl
    where
      found : (y : Forest L) → on_path parent x ≡ y → IsChild parent index x m t
      found Empty is = absurd (let none : Empty ≡ Tree m t s = sym (from-empty index) ∙ ap (λ y. trees_from index (first_children y)) (sym is) ∙ sym (on_child_at parent index x) ∙ e in cc)
      found (Tree n c r) is = record {
        above = record { label = n; children = c; after = r; is = is };
        behind = s;
        child = ap (λ y. trees_from index (first_children y)) (sym is) ∙ sym (on_child_at parent index x) ∙ e;
      }

  module _ (parent : List ℕ) (index : ℕ) (x : Forest L) (m : L) (t : Forest L) (child : IsChild parent index x m t) where
    -- its parent, once it is removed
    pub without_child : on_path parent (removed_at (child_at parent index) x) ≡ Tree child.above.label (from_position without_first index child.above.children) child.above.after
    without_child =
        ap (on_path parent) (removed-child parent index x)
        ∙ on-changed (with_children (from_position without_first index)) parent x refl
        ∙ ap (with_children (from_position without_first index)) child.above.is

    abbrev pub place_left : HasPlace parent index (removed_at (child_at parent index) x)
    place_left = record {
      first = record { label = child.above.label; children = from_position without_first index child.above.children; after = child.above.after; is = without_child };
      low = omega (arith, count-without index child.above.children (within index child.above.children m t child.behind child.child), within index child.above.children m t child.behind child.child);
    }

    -- and once it is inserted there again, all is as it was
    pub inserted_removed : (s : Forest L) → inserted_at parent index (Tree m t s) (removed_at (child_at parent index) x) ≡ x
    inserted_removed s =
        let put = with_children (with_tree index (Tree m t s)) in
        let cut : Forest L → Forest L = with_children (from_position without_first index) in
        ap (at_path put parent) (removed-child parent index x)
        ∙ at_both cut put parent x
        ∙ at_fixed (λ y. put (cut y)) parent x
        (ap (λ y. put (cut y)) child.above.is
        ∙ ap (λ c. Tree child.above.label c child.above.after) (spliced_cut index m t child.behind child.above.children child.child)
        ∙ sym child.above.is)
