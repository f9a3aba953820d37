-- The places of an edit, each the path of a node (our own).
use Rattle.std.specs.Prelude.{ℕ, List, [], ◌∷◌, ◌++◌, if◌then◌else◌, Bool, map, reverse}
use Rattle.std.specs.Option.{option_map_or}
use Rattle.forest.specs.Forest.{Forest}
use Rattle.forest.specs.Keys.{Keyed}
use Rattle.forest.specs.Paths.{key_at, on_path, path_of}
use Rattle.forest.specs.Spots.{earlier_of}
use Rattle.plain_types.specs.declared.edit.Edit.{Edit}
use Rattle.plain_types.specs.declared.edit.Edit.TheVariants.{Insert, Remove, Move, SetAttr, UnsetAttr, ReplaceSheet}
use Rattle.plain_types.specs.declared.node.Node.{Node}
use Rattle.node_arena.specs.AtPaths.{once_out}
use Rattle.node_arena.specs.Changes.{alone}
use Rattle.merged_walk.specs.EditStops.{on_way}
use Rattle.style_reach.specs.declared.extent.Reach.{Reach}
use Rattle.style_reach.specs.declared.extent.Reach.TheVariants.{Own, Under, Both, All}
use Rattle.edit_work.specs.KeyedSources.{elements_in, elements_of}

-- where the nodes stand in the tree before an edit that it takes out, moves or addresses
abbrev pub paths_before : Edit → List (List ℕ)
paths_before (Insert parent index fragment) = []
paths_before (Remove path) = path ∷ []
paths_before (Move from parent index) = from ∷ []
paths_before (SetAttr path name value) = path ∷ []
paths_before (UnsetAttr path name) = path ∷ []
paths_before (ReplaceSheet text) = []

-- where nodes come to stand in the tree after an edit: those that it puts in or moves
abbrev pub paths_coming : Edit → List (List ℕ)
paths_coming (Insert parent index fragment) = (parent ++ index ∷ []) ∷ []
paths_coming (Remove path) = []
paths_coming (Move from parent index) = (once_out from parent ++ index ∷ []) ∷ []
paths_coming (SetAttr path name value) = []
paths_coming (UnsetAttr path name) = []
paths_coming (ReplaceSheet text) = []

-- where the nodes stand in the tree after an edit that it puts in, moves or addresses
abbrev pub paths_after : Edit → List (List ℕ)
paths_after (Insert parent index fragment) = paths_coming (Insert parent index fragment)
paths_after (Remove path) = []
paths_after (Move from parent index) = paths_coming (Move from parent index)
paths_after (SetAttr path name value) = path ∷ []
paths_after (UnsetAttr path name) = path ∷ []
paths_after (ReplaceSheet text) = []

-- These paths, and those of the nodes that the reach names; where the reach is everywhere, the root alone.
abbrev pub places : Reach → List (List ℕ) → Forest (Keyed Node) → List (List ℕ)
places Own paths tree = paths
places (Under top) paths tree = paths ++ path_of tree top ∷ []
places (Both first second) paths tree = paths ++ (path_of tree first ∷ (path_of tree second ∷ []))
places All paths tree = [] ∷ []

-- The places of an edit in the tree after it where none was before. Where it reaches everywhere, the root was one.
abbrev pub new_places : Reach → Edit → List (List ℕ)
new_places All edit = []
new_places reach edit = paths_coming edit

-- What stands at a place, and around it.

module _ (tree : Forest (Keyed Node)) where
  -- the elements of the tree whose root is at the place
  abbrev pub elements_at : List ℕ → List ℕ
  elements_at path = elements_in (alone (on_path path tree))

  -- its ancestors, from the root: only elements have children
  abbrev pub ancestors_at : List ℕ → List ℕ
  ancestors_at path = map (λ (node : Keyed Node). node.key) (on_way path tree)

  -- its preceding element siblings, the nearest first
  abbrev pub preceding_at : List ℕ → List ℕ
  preceding_at path = reverse (elements_of (option_map_or (earlier_of tree) (key_at tree path) []))

-- elements up to the first that has a box, and with it
abbrev pub up_to_box : (ℕ → Bool) → List ℕ → List ℕ
up_to_box has_box [] = []
up_to_box has_box (key ∷ keys) = key ∷ (if has_box key then [] else up_to_box has_box keys)

-- the elements around a place: its ancestors, and its preceding element siblings back to the nearest that has a box
abbrev pub around_place : Forest (Keyed Node) → (ℕ → Bool) → List ℕ → List ℕ
around_place tree has_box path = ancestors_at tree path ++ up_to_box has_box (preceding_at tree path)
