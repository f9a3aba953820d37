-- What is left of the characters under a node, for a walk that stands inside it.
use Rattle.std.specs.Prelude.{ℕ, ◌+◌, ◌*◌, List, [], ◌∷◌, ◌++◌, length, Option}
use Rattle.forest.specs.Forest.{Forest, size}
use Rattle.forest.specs.Keys.{Keyed}
use Rattle.forest.specs.Spots.{IsLive, after_of, on_link}
use Rattle.plain_types.specs.declared.node.Node.{Node}
use Rattle.generated_texts.specs.References.{characters_in}

module _ (document : Forest (Keyed Node)) where
  -- the characters in these trees, and then, for each node that the walk is in, the innermost first, those in the
  -- trees after it
  abbrev pub characters_left : List ℕ → Forest (Keyed Node) → List ℕ
  characters_left [] trees = characters_in trees
  characters_left (key ∷ inside) trees = characters_in trees ++ characters_left inside (after_of document key)

  -- how many nodes are not reached yet
  abbrev pub nodes_left : List ℕ → Forest (Keyed Node) → ℕ
  nodes_left [] trees = size trees
  nodes_left (key ∷ inside) trees = size trees + nodes_left inside (after_of document key)

  -- the walk is in nodes of the document
  abbrev pub AreLive : List ℕ → Type 0
  AreLive [] = Unit {0}
  AreLive (key ∷ inside) = IsLive document key × AreLive inside

  -- what is left to do from a link: a node is reached, and left
  abbrev pub turns_left : List ℕ → Option ℕ → ℕ
  turns_left inside link = 2 * nodes_left inside (on_link document link) + length inside
