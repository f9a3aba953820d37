-- What is left of the nodes under a node, for a walk that stands inside it.
use Rattle.std.specs.Prelude.{ℕ, ◌+◌, ◌*◌, List, [], ◌∷◌, ◌++◌, flat_map, length, Option}
use Rattle.forest.specs.Forest.{Forest, labels, size}
use Rattle.forest.specs.Keys.{Keyed}
use Rattle.forest.specs.Spots.{IsLive, after_of, on_link}
use Rattle.plain_types.specs.declared.node.Node.{Node}

-- What a walk tells of trees, where this is what it tells of each node.
module _ {A : Type 0} (told : Keyed Node → List A) where
  abbrev pub told_of : Forest (Keyed Node) → List A
  told_of trees = flat_map told (labels trees)

  -- that of these trees, and then, for each node that the walk is in, the innermost first, that of the trees after it
  abbrev pub told_left : Forest (Keyed Node) → List ℕ → Forest (Keyed Node) → List A
  told_left document [] trees = told_of trees
  told_left document (key ∷ inside) trees = told_of trees ++ told_left document inside (after_of document key)

module _ (document : Forest (Keyed Node)) where
  -- how many nodes are not reached yet
  abbrev pub nodes_left : List ℕ → Forest (Keyed Node) → ℕ
  nodes_left [] trees = size trees
  nodes_left (key ∷ inside) trees = size trees + nodes_left inside (after_of document key)

  -- the walk is in nodes of the document
  abbrev pub AreLive : List ℕ → Type 0
  AreLive [] = Unit {0}
  AreLive (key ∷ inside) = IsLive document key × AreLive inside

  -- what is left to do from a link: a node is reached, and left
  abbrev pub turns_left : List ℕ → Option ℕ → ℕ
  turns_left inside link = 2 * nodes_left inside (on_link document link) + length inside
