-- The examples of the crate's page, computed: the list of stops is that of the merge, and that of the edit.
use Rattle.std.proofs.Common.{◌≡◌, ℕ, List, [], ◌∷◌, Some, None, refl}
use Rattle.forest.specs.Forest.{Forest, Empty, Tree}
use Rattle.forest.specs.Keys.{Keyed}
use Rattle.forest.specs.Spots.{keyed}
use Rattle.plain_types.specs.declared.edit.Edit.{Edit}
use Rattle.plain_types.specs.declared.edit.Edit.TheVariants.{Insert, Remove, Move, SetAttr, UnsetAttr, ReplaceSheet}
use Rattle.plain_types.specs.declared.node.Node.{Node}
use Rattle.plain_types.specs.declared.node.Node.TheVariants.{Element, Text}
use Rattle.node_arena.specs.AtPaths.{inserted_at}
use Rattle.merged_walk.specs.declared.stop.Stop.{Stop}
use Rattle.merged_walk.specs.declared.stop.Way.TheVariants.{Past, Inside, Anew}
use Rattle.merged_walk.specs.Stops.{stops_of}
use Rattle.edit_merge.specs.EditMerges.{edit_merge, edit_stops, is_element}

abbrev element : ℕ → Keyed Node
element key = keyed key (Element [] [])

abbrev text : ℕ → Keyed Node
text key = keyed key (Text [])

abbrev item : ℕ → ℕ → Forest (Keyed Node) → Forest (Keyed Node)
item key inside after = Tree (element key) (Tree (text inside) Empty Empty) after

abbrev document : Forest (Keyed Node)
document = Tree (element 0) (item 1 2 (item 3 4 (item 5 6 Empty))) Empty

-- the document before and after has these stops
abbrev HasStops : Edit → ℕ → Forest (Keyed Node) → List Stop → Type 0
HasStops edit key new stops = (stops_of is_element 0 (edit_merge edit document new) ≡ stops) × (edit_stops edit key document ≡ stops)

abbrev into_list : Stop
into_list = record { depth = 0; link = Some 0; way = Inside; from = Some 0 }

an-item-goes : HasStops (Remove (1 ∷ [])) 0 document (into_list ∷ (record { depth = 1; link = Some 5; way = Past; from = Some 3 } ∷ []))
an-item-goes = (refl, refl)

abbrev put_last : Edit
put_last = Insert [] 3 (Tree (Element [] []) Empty Empty)

an-item-comes-last : HasStops put_last 7 (inserted_at [] 3 (Tree (element 7) Empty Empty) document) (into_list ∷ (record { depth = 1; link = Some 7; way = Anew; from = None } ∷ []))
an-item-comes-last = (refl, refl)

an-item-changes : HasStops (SetAttr (1 ∷ []) [] []) 0 document
    (into_list ∷ (record { depth = 1; link = Some 3; way = Past; from = Some 3 } ∷ (record { depth = 1; link = Some 3; way = Anew; from = Some 5 } ∷ [])))
an-item-changes = (refl, refl)

the-root-changes : HasStops (UnsetAttr [] []) 0 document
    (record { depth = 0; link = Some 0; way = Past; from = Some 0 } ∷ (record { depth = 0; link = Some 0; way = Anew; from = None } ∷ []))
the-root-changes = (refl, refl)

an-item-moves-into-another : HasStops (Move (0 ∷ []) (2 ∷ []) 0) 0 document
    (into_list
    ∷ (record { depth = 1; link = Some 3; way = Past; from = Some 1 }
    ∷ (record { depth = 1; link = Some 5; way = Inside; from = Some 5 } ∷ (record { depth = 2; link = Some 1; way = Anew; from = None } ∷ []))))
an-item-moves-into-another = (refl, refl)

an-item-moves-behind-the-next : HasStops (Move (0 ∷ []) [] 1) 0 document
    (into_list ∷ (record { depth = 1; link = Some 3; way = Past; from = Some 1 } ∷ (record { depth = 1; link = Some 1; way = Anew; from = Some 5 } ∷ [])))
an-item-moves-behind-the-next = (refl, refl)

another-sheet-comes : HasStops (ReplaceSheet []) 0 document []
another-sheet-comes = (refl, refl)
