-- Keyed forests of which a part is replaced.
use Rattle.std.specs.Prelude.{ℕ, zero, suc, ◌==◌, if◌then◌else◌}
use Rattle.forest.specs.Forest.{Forest, Empty, Tree}
use Rattle.forest.specs.Keys.{Keyed}
use Rattle.forest.specs.Spots.{keyed}

module _ {L : Type 0} where
  -- the forest where a node has these children
  abbrev pub put_children : ℕ → Forest (Keyed L) → Forest (Keyed L) → Forest (Keyed L)
  put_children key trees Empty = Empty
  put_children key trees (Tree node children after) =
      Tree node (if node.key == key then trees else put_children key trees children) (put_children key trees after)

  -- the forest where these trees stand after a node
  abbrev pub put_after : ℕ → Forest (Keyed L) → Forest (Keyed L) → Forest (Keyed L)
  put_after key trees Empty = Empty
  put_after key trees (Tree node children after) =
      Tree node (put_after key trees children) (if node.key == key then trees else put_after key trees after)

  -- the forest where a node has this label
  abbrev pub put_label : ℕ → L → Forest (Keyed L) → Forest (Keyed L)
  put_label key label Empty = Empty
  put_label key label (Tree node children after) =
      Tree (if node.key == key then keyed key label else node) (put_label key label children) (put_label key label after)

-- the trees with one more, which has so many of them before it, or all where there are fewer
abbrev pub splice : {L : Type 0} → ℕ → L → Forest L → Forest L → Forest L
splice zero label children trees = Tree label children trees
splice (suc position) label children Empty = Tree label children Empty
splice (suc position) label children (Tree first inside after) = Tree first inside (splice position label children after)
