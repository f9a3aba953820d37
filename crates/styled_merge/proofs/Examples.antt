-- The examples of the crate's page, computed: what an edit reaches, the stops that are told of it, and those of its merge.
use Rattle.std.proofs.Common.{◌≡◌, ℕ, true, false, List, [], ◌∷◌, Some, None, refl}
use Rattle.forest.specs.Forest.{Forest, Empty, Tree}
use Rattle.forest.specs.Keys.{Keyed}
use Rattle.forest.specs.Spots.{keyed}
use Rattle.plain_types.specs.declared.edit.Edit.{Edit}
use Rattle.plain_types.specs.declared.edit.Edit.TheVariants.{Insert, Move}
use Rattle.plain_types.specs.declared.node.Node.{Node}
use Rattle.plain_types.specs.declared.node.Node.TheVariants.{Element}
use Rattle.plain_types.specs.declared.sheet.Features.{Features}
use Rattle.node_arena.specs.AtPaths.{inserted_at, moved}
use Rattle.merged_walk.specs.declared.stop.Stop.{Stop}
use Rattle.merged_walk.specs.declared.stop.Way.TheVariants.{Past, Inside, Anew}
use Rattle.merged_walk.specs.Stops.{stops_of}
use Rattle.edit_merge.specs.EditMerges.{edit_merge, is_element}
use Rattle.style_reach.specs.Reaches.{reach}
use Rattle.style_reach.specs.declared.extent.Reach.{Reach}
use Rattle.style_reach.specs.declared.extent.Reach.TheVariants.{Own, Under, Both}
use Rattle.styled_merge.specs.Reached.{begins_at, reached}
use Rattle.styled_merge.specs.ReachStops.{reach_stops}

abbrev node : ℕ → Forest (Keyed Node) → Forest (Keyed Node) → Forest (Keyed Node)
node key children after = Tree (keyed key (Element [] [])) children after

-- a body with two lists, of two items and of one
abbrev document : Forest (Keyed Node)
document = node 0 (node 1 (node 2 Empty (node 3 Empty Empty)) (node 4 (node 5 Empty Empty) Empty)) Empty

-- selectors look at positions, as in `li:last-child`; or at nothing beside elements and their ancestors
abbrev positions : Features
positions = record { siblings = false; positions = true; empties = false }

abbrev none : Features
none = record { siblings = false; positions = false; empties = false }

-- the edit reaches this, and the documents before and after it have these stops
abbrev HasStops : Features → Edit → ℕ → Forest (Keyed Node) → Reach → List Stop → Type 0
HasStops features edit key new extent stops =
    (reach features document edit ≡ extent)
    × (reach_stops extent edit key document ≡ stops)
    × (stops_of is_element 0 (reached (begins_at extent) (edit_merge edit document new)) ≡ stops)

abbrev into : ℕ → ℕ → Stop
into depth key = record { depth = depth; link = Some key; way = Inside; from = Some key }

abbrev put_last : Edit
put_last = Insert (0 ∷ []) 2 (Tree (Element [] []) Empty Empty)

abbrev with_item : Forest (Keyed Node)
with_item = inserted_at (0 ∷ []) 2 (node 6 Empty Empty) document

a-list-is-seen : HasStops positions put_last 6 with_item (Under 1)
    (into 0 0 ∷ (record { depth = 1; link = Some 1; way = Past; from = Some 1 } ∷ (record { depth = 1; link = Some 1; way = Anew; from = Some 4 } ∷ [])))
a-list-is-seen = (refl, refl, refl)

an-item-alone : HasStops none put_last 6 with_item Own (into 0 0 ∷ (into 1 1 ∷ (record { depth = 2; link = Some 6; way = Anew; from = None } ∷ [])))
an-item-alone = (refl, refl, refl)

abbrev move_over : Edit
move_over = Move (0 ∷ 0 ∷ []) (1 ∷ []) 0

two-lists-are-seen : HasStops positions move_over 0 (moved (0 ∷ 0 ∷ []) (1 ∷ []) 0 document) (Both 1 4)
    (into 0 0
    ∷ (record { depth = 1; link = Some 1; way = Past; from = Some 1 }
    ∷ (record { depth = 1; link = Some 1; way = Anew; from = Some 4 }
    ∷ (record { depth = 1; link = Some 4; way = Past; from = Some 4 } ∷ (record { depth = 1; link = Some 4; way = Anew; from = None } ∷ [])))))
two-lists-are-seen = (refl, refl, refl)

abbrev move_out : Edit
move_out = Move (0 ∷ 0 ∷ []) [] 2

one-stands-in-the-other : HasStops positions move_out 0 (moved (0 ∷ 0 ∷ []) [] 2 document) (Both 1 0)
    (record { depth = 0; link = Some 0; way = Past; from = Some 0 } ∷ (record { depth = 0; link = Some 0; way = Anew; from = None } ∷ []))
one-stands-in-the-other = (refl, refl, refl)
