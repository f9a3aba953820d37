-- Trees that are changed where a path leads, whatever their labels: with keys or without. A path (our own)
-- is the list of child positions from the root down, from 0; every child counts.
use Rattle.std.specs.Prelude.{◌-◌, ◌==◌, ℕ, zero, suc, nat_lt, Bool, true, false, ◌&&◌, if◌then◌else◌, List, [], ◌∷◌, length, Option, Some, None}
use Rattle.forest.specs.Forest.{Forest, Empty, Tree}
use Rattle.forest.specs.Spots.{roots}
use Rattle.forest.specs.Paths.{on_path}
use Rattle.forest.specs.Changes.{splice}

module _ {L : Type 0} where
  -- the forest whose trees from this position on are changed so
  abbrev pub from_position : (Forest L → Forest L) → ℕ → Forest L → Forest L
  from_position change zero forest = change forest
  from_position change (suc position) Empty = Empty
  from_position change (suc position) (Tree label children after) = Tree label children (from_position change position after)

  -- the forest where the tree that a path leads to, with its siblings after it, is changed so
  abbrev pub at_path : (Forest L → Forest L) → List ℕ → Forest L → Forest L
  at_path change [] forest = change forest
  at_path change (position ∷ path) Empty = Empty
  at_path change (position ∷ path) (Tree label children after) = Tree label (from_position (at_path change path) position children) after

  -- The three changes: the first tree goes, or its children or its label are changed.

  abbrev pub without_first : Forest L → Forest L
  without_first Empty = Empty
  without_first (Tree label children after) = after

  abbrev pub with_children : (Forest L → Forest L) → Forest L → Forest L
  with_children change Empty = Empty
  with_children change (Tree label children after) = Tree label (change children) after

  abbrev pub with_label : (L → L) → Forest L → Forest L
  with_label change Empty = Empty
  with_label change (Tree label children after) = Tree (change label) children after

  -- these trees, and among them the first tree of a forest, with so many before it
  abbrev pub with_tree : ℕ → Forest L → Forest L → Forest L
  with_tree index Empty trees = trees
  with_tree index (Tree label children after) trees = splice index label children trees

  -- What stands at a path.

  abbrev pub first_label : Forest L → Option L
  first_label Empty = None
  first_label (Tree label children after) = Some label

  abbrev pub first_children : Forest L → Forest L
  first_children Empty = Empty
  first_children (Tree label children after) = children

  abbrev pub label_at : List ℕ → Forest L → Option L
  label_at path tree = first_label (on_path path tree)

  abbrev pub child_count_at : List ℕ → Forest L → ℕ
  child_count_at path tree = length (roots (first_children (on_path path tree)))

  -- The edits of a tree.

  -- the fragment becomes the child of this index of the node at a path
  abbrev pub inserted_at : List ℕ → ℕ → Forest L → Forest L → Forest L
  inserted_at parent index fragment tree = at_path (with_children (with_tree index fragment)) parent tree

  -- the node at a path goes, and all under it
  abbrev pub removed_at : List ℕ → Forest L → Forest L
  removed_at path tree = at_path without_first path tree

  -- the label of the node at a path is changed
  abbrev pub relabelled_at : List ℕ → (L → L) → Forest L → Forest L
  relabelled_at path change tree = at_path (with_label change) path tree

-- the second path leads to the node at the first, or to one under it
abbrev pub leads_into : List ℕ → List ℕ → Bool
leads_into [] path = true
leads_into (step ∷ above) [] = false
leads_into (step ∷ above) (position ∷ path) = step == position && leads_into above path

-- where a path leads once the node at another is taken out: that node's later siblings move up by one
abbrev pub once_out : List ℕ → List ℕ → List ℕ
once_out [] path = path
once_out (gone ∷ above) [] = []
once_out (gone ∷ []) (position ∷ path) = (if nat_lt gone position then position - 1 else position) ∷ path
once_out (step ∷ (next ∷ above)) (position ∷ path) = position ∷ (if step == position then once_out (next ∷ above) path else path)

-- the node at a path is taken out, and becomes the child of this index of another; both paths name nodes
-- of the tree before the move
abbrev pub moved : {L : Type 0} → List ℕ → List ℕ → ℕ → Forest L → Forest L
moved from parent index tree = inserted_at (once_out from parent) index (on_path from tree) (removed_at from tree)
