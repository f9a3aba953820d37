-- The example of the crate's page, computed: the stops of an edit, and those where a heading before its place is turned.
use Rattle.std.proofs.Common.{◌≡◌, ℕ, true, [], ◌∷◌, Some, refl}
use Rattle.forest.specs.Forest.{Forest, Empty, Tree}
use Rattle.forest.specs.Keys.{Keyed}
use Rattle.forest.specs.Spots.{keyed}
use Rattle.plain_types.specs.declared.edit.Edit.{Edit}
use Rattle.plain_types.specs.declared.edit.Edit.TheVariants.{Remove}
use Rattle.plain_types.specs.declared.node.Node.{Node}
use Rattle.plain_types.specs.declared.node.Node.TheVariants.{Element}
use Rattle.node_arena.specs.AtPaths.{removed_at}
use Rattle.merged_walk.specs.declared.stop.Stop.{Stop}
use Rattle.merged_walk.specs.declared.stop.Way.TheVariants.{Past, Inside}
use Rattle.merged_walk.specs.Stops.{stops_of}
use Rattle.edit_merge.specs.EditMerges.{edit_merge, is_element}
use Rattle.edit_work.specs.KeyedSources.{is_among}
use Rattle.start_reach.specs.TurnedElements.{stays, turned_where, way_to, with_ways_to}

abbrev node : ℕ → Forest (Keyed Node) → Forest (Keyed Node) → Forest (Keyed Node)
node key children after = Tree (keyed key (Element [] [])) children after

-- a body with two headings, two paragraphs behind the first and one behind the other
abbrev document : Forest (Keyed Node)
document = node 0 (node 1 Empty (node 2 Empty (node 3 Empty (node 4 Empty (node 5 Empty Empty))))) Empty

-- the second paragraph goes
abbrev edit : Edit
edit = Remove (2 ∷ [])

abbrev without_it : Forest (Keyed Node)
without_it = removed_at (2 ∷ []) document

abbrev into : ℕ → ℕ → Stop
into depth key = record { depth = depth; link = Some key; way = Inside; from = Some key }

abbrev gone : Stop
gone = record { depth = 1; link = Some 4; way = Past; from = Some 3 }

its-stops : stops_of is_element 0 (edit_merge edit document without_it) ≡ into 0 0 ∷ (gone ∷ [])
its-stops = refl

the-heading-stays : stays is_element 1 (edit_merge edit document without_it) ≡ true
the-heading-stays = refl

the-way : way_to without_it 1 ≡ 0 ∷ (1 ∷ [])
the-way = refl

turned-stops : stops_of is_element 0 (turned_where is_element (is_among (1 ∷ [])) (edit_merge edit document without_it)) ≡ into 0 0 ∷ (into 1 1 ∷ (gone ∷ []))
turned-stops = refl

told-by-the-way : with_ways_to without_it (1 ∷ []) (into 0 0 ∷ (gone ∷ [])) ≡ into 0 0 ∷ (into 1 1 ∷ (gone ∷ []))
told-by-the-way = refl
