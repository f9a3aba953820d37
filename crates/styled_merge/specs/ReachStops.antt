-- The stops of an edit where what it reaches goes and comes, told by the document before it (our own).
use Rattle.std.specs.Prelude.{ℕ, List, []}
use Rattle.forest.specs.Forest.{Forest}
use Rattle.forest.specs.Keys.{Keyed}
use Rattle.plain_types.specs.declared.edit.Edit.{Edit}
use Rattle.plain_types.specs.declared.node.Node.{Node}
use Rattle.merged_walk.specs.declared.stop.Stop.{Stop}
use Rattle.merged_walk.specs.EditStops.{relabelling_stops}
use Rattle.edit_merge.specs.EditMerges.{edit_stops, is_element}
use Rattle.edit_merge.specs.NodeStops.{stops_at_node, stops_at_nodes}
use Rattle.style_reach.specs.declared.extent.Reach.{Reach}
use Rattle.style_reach.specs.declared.extent.Reach.TheVariants.{Own, Under, Both, All}

-- The places of an edit stand in the nodes that it reaches, so the stops are at these. Where it reaches none, they are its
-- own, with this key for the root that it inserts; where it reaches everywhere, the document's root goes and comes.
abbrev pub reach_stops : Reach → Edit → ℕ → Forest (Keyed Node) → List Stop
reach_stops Own edit key old = edit_stops edit key old
reach_stops (Under top) edit key old = stops_at_node old top
reach_stops (Both first second) edit key old = stops_at_nodes old first second
reach_stops All edit key old = relabelling_stops is_element [] old
