-- The stops where nodes go and come again with all that is in them, told by their keys in the document before (our own).
use Rattle.std.specs.Prelude.{ℕ, List, if◌then◌else◌}
use Rattle.forest.specs.Forest.{Forest}
use Rattle.forest.specs.Keys.{Keyed}
use Rattle.forest.specs.Paths.{path_of}
use Rattle.plain_types.specs.declared.node.Node.{Node}
use Rattle.node_arena.specs.AtPaths.{leads_into}
use Rattle.merged_walk.specs.declared.stop.Stop.{Stop}
use Rattle.merged_walk.specs.EditStops.{is_before, joined, relabelling_stops}
use Rattle.edit_merge.specs.EditMerges.{is_element}

module _ (tree : Forest (Keyed Node)) where
  -- where one node does
  abbrev pub stops_at_node : ℕ → List Stop
  stops_at_node key = relabelling_stops is_element (path_of tree key) tree

  -- Where two do. One that stands in the other goes and comes with it. Else their stops are in tree order, and those into
  -- the nodes above both stand once.
  abbrev pub stops_at_nodes : ℕ → ℕ → List Stop
  stops_at_nodes one other =
      let path : List ℕ = path_of tree one in
      let place : List ℕ = path_of tree other in
      if leads_into path place then stops_at_node one
      else (if leads_into place path then stops_at_node other
      else joined (is_before path place) (stops_at_node one) (stops_at_node other))
