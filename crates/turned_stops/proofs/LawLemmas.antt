-- The laws, from their lemmas.
use Rattle.std.proofs.Common.{◌≡◌, ◌<◌, true, [], Option, Some, None, IsSome, refl, ◌∙◌, arith}
use Rattle.std.specs.Prelude.{option_and_then, option_map}
use Rattle.forest.specs.Forest.{Forest}
use Rattle.forest.specs.Keys.{Keyed, times}
use Rattle.forest.specs.Spots.{Spot, spot_of}
use Rattle.forest.proofs.SpotLaws.{spot-counted}
use Rattle.plain_types.specs.declared.node.Node.{Node}
use Rattle.node_arena.specs.Nodes.{node_name}
use Rattle.merged_walk.specs.Merges.{new_of}
use Rattle.merged_walk.specs.Stops.{stops_of}
use Rattle.edit_merge.specs.EditMerges.{is_element}
use Rattle.edit_work.specs.KeyedSources.{is_among}
use Rattle.start_reach.specs.TurnedElements.{stays}
use Rattle.turned_stops.specs.Coming.{coming_at_stops}
use Rattle.turned_stops.specs.Laws.{StaysIsNotComing}
use Rattle.turned_stops.proofs.ElementCounts.{says-there}
use Rattle.turned_stops.proofs.StayLemmas.{one-not, stands-top, stays-counted}

-- a node with a name is an element
named : (o : Option (Spot Node)) → IsSome (option_and_then node_name (option_map (λ (s : Spot Node). s.label) o)) → (s : Spot Node) × (o ≡ Some s) × (is_element s.label ≡ true)
named None h = absurd (cc h)
named (Some s) h = (s, refl, h)

pub stays_is_not_coming : StaysIsNotComing
stays_is_not_coming merge distinct key element =
    let whole : Forest (Keyed Node) = new_of merge in
    let s = named (spot_of whole key) element in
    let there : 0 < times key whole = spot-counted whole None [] key s.0 s.1 in
    let all = stays-counted whole distinct key 0 merge None [] (stands-top whole distinct key whole refl) distinct (says-there key true whole None [] s.0 distinct s.1 s.2) in
    let one-of : times key whole ≡ 1 = omega (arith, there, distinct key) in
    one-not (stays is_element key merge) (is_among (coming_at_stops whole (stops_of is_element 0 merge)) key) (all ∙ one-of)
