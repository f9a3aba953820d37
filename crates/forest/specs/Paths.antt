-- Paths of keyed forests (our own): for each step down from the root the position of a child, from 0.
use Rattle.std.specs.Prelude.{ℕ, zero, suc, ◌+◌, ◌==◌, if◌then◌else◌, List, [], ◌∷◌, drop, Option, Some, None, option_map, unwrap_or}
use Rattle.std.specs.Option.{option_or}
use Rattle.forest.specs.Forest.{Forest, Empty, Tree}
use Rattle.forest.specs.Keys.{Keyed}
use Rattle.forest.specs.Spots.{first_key}

-- the forest without so many trees at its front
abbrev pub trees_from : {L : Type 0} → ℕ → Forest L → Forest L
trees_from zero forest = forest
trees_from (suc position) Empty = Empty
trees_from (suc position) (Tree label children after) = trees_from position after

-- the tree that a path leads to from the first root, and the trees of its siblings after it
abbrev pub on_path : {L : Type 0} → List ℕ → Forest L → Forest L
on_path [] forest = forest
on_path (position ∷ path) Empty = Empty
on_path (position ∷ path) (Tree label children after) = on_path path (trees_from position children)

module _ {L : Type 0} where
  -- the node at a path
  abbrev pub key_at : Forest (Keyed L) → List ℕ → Option ℕ
  key_at forest path = first_key (on_path path forest)

  -- the positions of a node and of all nodes that it is in, from the outermost, where the first root has this position
  abbrev pub route : ℕ → Forest (Keyed L) → ℕ → Option (List ℕ)
  route position Empty key = None
  route position (Tree node children after) key =
      if node.key == key then Some (position ∷ [])
      else option_or (option_map (λ steps. position ∷ steps) (route 0 children key)) (route (position + 1) after key)

  abbrev pub route_of : Forest (Keyed L) → ℕ → List ℕ
  route_of forest key = unwrap_or (route 0 forest key) []

  -- the path of a node: the root has no position
  abbrev pub path_of : Forest (Keyed L) → ℕ → List ℕ
  path_of forest key = drop 1 (route_of forest key)
