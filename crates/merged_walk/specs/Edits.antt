-- The merge of a tree before an edit and the tree after it (our own). Paths are those of node_arena's `AtPaths`.
use Rattle.std.specs.Prelude.{ℕ, zero, suc, List, [], ◌∷◌}
use Rattle.forest.specs.Forest.{Forest, Empty, Tree}
use Rattle.forest.specs.Keys.{Keyed}
use Rattle.forest.specs.Changes.{splice}
use Rattle.forest.specs.Paths.{on_path}
use Rattle.node_arena.specs.AtPaths.{from_position, inserted_at, once_out}
use Rattle.merged_walk.specs.Merges.{Merge, End, Kept, Turned, Gone, Come, all_kept}

module _ {L : Type 0} where
  -- trees that are merged so from this position on, and kept before it
  abbrev pub merged_from : (Forest (Keyed L) → Merge L) → ℕ → Forest (Keyed L) → Merge L
  merged_from change zero trees = change trees
  merged_from change (suc position) Empty = End
  merged_from change (suc position) (Tree node children after) = Kept node (all_kept children) (merged_from change position after)

  -- the tree that a path leads to, with its siblings after it, is merged so, and all else is kept
  abbrev pub merged_at : (Forest (Keyed L) → Merge L) → List ℕ → Forest (Keyed L) → Merge L
  merged_at change [] trees = change trees
  merged_at change (position ∷ path) Empty = End
  merged_at change (position ∷ path) (Tree node children after) = Kept node (merged_from (merged_at change path) position children) (all_kept after)

  -- the first tree goes
  abbrev pub first_gone : Forest (Keyed L) → Merge L
  first_gone Empty = End
  first_gone (Tree node children after) = Gone node children (all_kept after)

  -- the first tree goes, and comes again with another node at its root
  abbrev pub first_changed : (Keyed L → Keyed L) → Forest (Keyed L) → Merge L
  first_changed change Empty = End
  first_changed change (Tree node children after) = Gone node children (Come (change node) children (all_kept after))

  -- The first tree of a fragment comes.

  -- on a level, with so many new trees before it, or all where there are fewer
  abbrev pub come_among : ℕ → Keyed L → Forest (Keyed L) → Merge L → Merge L
  come_among zero node children level = Come node children level
  come_among (suc position) node children End = Come node children End
  come_among (suc position) node children (Kept first inside after) = Kept first inside (come_among position node children after)
  come_among (suc position) node children (Turned was first inside after) = Turned was first inside (come_among position node children after)
  come_among (suc position) node children (Gone first inside after) = Gone first inside (come_among (suc position) node children after)
  come_among (suc position) node children (Come first inside after) = Come first inside (come_among position node children after)

  -- a level that is changed so from this position of its new trees on
  abbrev pub from_new : (Merge L → Merge L) → ℕ → Merge L → Merge L
  from_new change zero (Gone first inside after) = Gone first inside (from_new change zero after)
  from_new change zero level = change level
  from_new change (suc position) End = End
  from_new change (suc position) (Kept first inside after) = Kept first inside (from_new change position after)
  from_new change (suc position) (Turned was first inside after) = Turned was first inside (from_new change position after)
  from_new change (suc position) (Gone first inside after) = Gone first inside (from_new change (suc position) after)
  from_new change (suc position) (Come first inside after) = Come first inside (from_new change position after)

  -- as the child of this index of the new node at a path
  abbrev pub put_at : List ℕ → ℕ → Keyed L → Forest (Keyed L) → Merge L → Merge L
  put_at [] index node children End = End
  put_at [] index node children (Kept first inside after) = Kept first (come_among index node children inside) after
  put_at [] index node children (Turned was first inside after) = Turned was first (come_among index node children inside) after
  put_at [] index node children (Gone first inside after) = Gone first inside (put_at [] index node children after)
  put_at [] index node children (Come first inside after) = Come first (splice index node children inside) after
  put_at (position ∷ path) index node children End = End
  put_at (position ∷ path) index node children (Kept first inside after) = Kept first (from_new (put_at path index node children) position inside) after
  put_at (position ∷ path) index node children (Turned was first inside after) =
      Turned was first (from_new (put_at path index node children) position inside) after
  put_at (position ∷ path) index node children (Gone first inside after) = Gone first inside (put_at (position ∷ path) index node children after)
  put_at (position ∷ path) index node children (Come first inside after) =
      Come first (from_position (inserted_at path index (Tree node children Empty)) position inside) after

  abbrev pub put_fragment : List ℕ → ℕ → Forest (Keyed L) → Merge L → Merge L
  put_fragment path index Empty merge = merge
  put_fragment path index (Tree node children after) merge = put_at path index node children merge

  -- The edits of a tree.

  -- the node at a path goes, and all under it
  abbrev pub removal : List ℕ → Forest (Keyed L) → Merge L
  removal path tree = merged_at first_gone path tree

  -- the node at a path is changed: it goes and comes, and all under it
  abbrev pub relabelling : List ℕ → (Keyed L → Keyed L) → Forest (Keyed L) → Merge L
  relabelling path change tree = merged_at (first_changed change) path tree

  -- a fragment becomes the child of this index of the node at a path
  abbrev pub insertion : List ℕ → ℕ → Forest (Keyed L) → Forest (Keyed L) → Merge L
  insertion parent index fragment tree = put_fragment parent index fragment (all_kept tree)

  -- the node at a path goes, and comes as the child of this index of another; both paths are those before the move
  abbrev pub moving : List ℕ → List ℕ → ℕ → Forest (Keyed L) → Merge L
  moving from parent index tree = put_fragment (once_out from parent) index (on_path from tree) (removal from tree)
