-- The nodes that a node stands in: DOM, 1.1 "Trees".
use Rattle.std.specs.Prelude.{ℕ, ◌==◌, if◌then◌else◌, Bool, List, [], ◌∷◌, ◌++◌}
use Rattle.std.specs.List.{list_any}
use Rattle.forest.specs.Forest.{Forest, Empty, Tree}
use Rattle.forest.specs.Keys.{Keyed}

module _ {L : Type 0} where
  -- the node of this key, its parent, its parent's parent, and so on, in trees of whose roots these are the ancestors
  abbrev pub ancestors_in : List (Keyed L) → Forest (Keyed L) → ℕ → List (Keyed L)
  ancestors_in above Empty key = []
  ancestors_in above (Tree node children after) key =
      if node.key == key then node ∷ above else ancestors_in (node ∷ above) children key ++ ancestors_in above after key

  -- the inclusive ancestors of the node of this key, itself first; of a key that no node has there are none
  abbrev pub inclusive_ancestors : Forest (Keyed L) → ℕ → List (Keyed L)
  inclusive_ancestors tree key = ancestors_in [] tree key

  -- the node of the second key is an inclusive descendant of that of the first
  abbrev pub is_within : Forest (Keyed L) → (top key : ℕ) → Bool
  is_within tree top key = list_any (λ (node : Keyed L). node.key == top) (inclusive_ancestors tree key)
