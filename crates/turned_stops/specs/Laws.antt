-- Laws of the elements that come with an edit (our own).
use Rattle.std.specs.Prelude.{◌≡◌, ℕ, IsSome, not}
use Rattle.forest.specs.Keys.{HasDistinctKeys}
use Rattle.plain_types.specs.declared.node.Node.{Node}
use Rattle.node_arena.specs.Nodes.{name_of}
use Rattle.merged_walk.specs.Merges.{Merge, new_of}
use Rattle.merged_walk.specs.Stops.{stops_of}
use Rattle.edit_merge.specs.EditMerges.{is_element}
use Rattle.edit_work.specs.KeyedSources.{is_among}
use Rattle.start_reach.specs.TurnedElements.{stays}
use Rattle.turned_stops.specs.Coming.{coming_at_stops}

-- each element of the new document stays, or is among those that come at the stops of the merge, and not both
abbrev pub StaysIsNotComing : Type 0
StaysIsNotComing =
    (merge : Merge Node) → HasDistinctKeys (new_of merge) → (key : ℕ) → IsSome (name_of (new_of merge) key)
    → stays is_element key merge ≡ not (is_among (coming_at_stops (new_of merge) (stops_of is_element 0 merge)) key)
