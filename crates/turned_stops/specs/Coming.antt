-- The elements that come with an edit, told by its stops (our own).
use Rattle.std.specs.Prelude.{ℕ, List, [], Option, flat_map}
use Rattle.forest.specs.Forest.{Forest}
use Rattle.forest.specs.Keys.{Keyed}
use Rattle.forest.specs.Spots.{on_link}
use Rattle.plain_types.specs.declared.node.Node.{Node}
use Rattle.node_arena.specs.Changes.{alone}
use Rattle.merged_walk.specs.declared.stop.Stop.{Stop}
use Rattle.merged_walk.specs.declared.stop.Way.{Way}
use Rattle.merged_walk.specs.declared.stop.Way.TheVariants.{Past, Inside, Anew}
use Rattle.edit_work.specs.KeyedSources.{elements_in}

-- the elements of the tree that comes at a stop of this way and link
abbrev pub coming_by : Forest (Keyed Node) → Way → (link : Option ℕ) → List ℕ
coming_by new Past link = []
coming_by new Inside link = []
coming_by new Anew link = elements_in (alone (on_link new link))

-- those that come at stops, in their order and each tree's in tree order
abbrev pub coming_at_stops : Forest (Keyed Node) → List Stop → List ℕ
coming_at_stops new stops = flat_map (λ (stop : Stop). coming_by new stop.way stop.link) stops
