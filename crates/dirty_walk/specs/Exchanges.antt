-- What an edit takes out of a document and what it brings into it (our own).
use Rattle.std.specs.Prelude.{◌≡◌, ℕ, cond, codes, flat_map, map, List, [], ◌∷◌, ◌++◌, Option}
use Rattle.std.specs.Option.{option_map_or}
use Rattle.forest.specs.Forest.{Forest, Empty, Tree, labels}
use Rattle.forest.specs.Keys.{Keyed}
use Rattle.forest.specs.Paths.{on_path}
use Rattle.plain_types.specs.Attributes.{value_of}
use Rattle.plain_types.specs.declared.edit.Edit.{Edit}
use Rattle.plain_types.specs.declared.edit.Edit.TheVariants.{Insert, Remove, SetAttr, UnsetAttr}
use Rattle.plain_types.specs.declared.node.Node.{Node}
use Rattle.node_arena.specs.Changes.{alone}
use Rattle.node_arena.specs.Copies.{is_element}
use Rattle.node_arena.specs.Nodes.{node_attrs}
use Rattle.edit_merge.specs.Laws.{IsDone}
use Rattle.target_index.specs.declared.change.IndexChange.{IndexChange}
use Rattle.target_index.specs.declared.change.IndexChange.TheVariants.{Hold, Unhold}
use Rattle.target_index.specs.declared.index.Index.{Index}
use Rattle.dirty_walk.specs.declared.exchange.ElementId.{ElementId}
use Rattle.referring_elements.specs.Indexes.{IsIndexOf}

-- the first node of trees, without what is under it and after it
abbrev pub first_node : {L : Type 0} → Forest L → Forest L
first_node Empty = Empty
first_node (Tree label children after) = Tree label Empty Empty

-- what goes from the document before an edit: the tree that is removed, or the element as it was whose attributes change
abbrev pub leaving : Edit → Forest (Keyed Node) → Forest (Keyed Node)
leaving (Remove path) old = alone (on_path path old)
leaving (SetAttr path name value) old = first_node (on_path path old)
leaving (UnsetAttr path name) old = first_node (on_path path old)
leaving edit old = Empty

-- what is new in the document after it: the tree that is inserted, or that element as it is now
abbrev pub coming : Edit → Forest (Keyed Node) → Forest (Keyed Node)
coming (Insert parent index fragment) new = alone (on_path (parent ++ index ∷ []) new)
coming (SetAttr path name value) new = first_node (on_path path new)
coming (UnsetAttr path name) new = first_node (on_path path new)
coming edit new = Empty

-- Elements and their ids.

-- DOM, 4.9: the value of the `id` attribute of an element
abbrev pub id_of : Node → Option (List ℕ)
id_of node = value_of (codes "id") (node_attrs node)

abbrev pub element_of : Keyed Node → List ElementId
element_of node = cond (is_element node.label) (record { key = node.key; id = id_of node.label } ∷ []) []

-- the elements of trees, in tree order
abbrev pub elements_in : Forest (Keyed Node) → List ElementId
elements_in trees = flat_map element_of (labels trees)

-- that an element holds its id no longer, and that it holds it; nothing of one that has none
abbrev pub unheld : ElementId → List IndexChange
unheld element = option_map_or (λ id. Unhold id element.key ∷ []) element.id []

abbrev pub held : ElementId → List IndexChange
held element = option_map_or (λ id. Hold id element.key ∷ []) element.id []

-- the changes of an index where the first elements go, and the second come
abbrev pub exchanges : List ElementId → List ElementId → List IndexChange
exchanges gone come = flat_map unheld gone ++ flat_map held come

-- of the elements that go those that the document does not have any longer
abbrev pub taken_keys : Edit → List ElementId → List ℕ
taken_keys (Remove path) gone = map (λ (element : ElementId). element.key) gone
taken_keys edit gone = []

-- an index is that of the document before an edit, of which these elements go
pub record IsIndexBefore (edit : Edit) (gone : List ElementId) (index : Index) (new : Forest (Keyed Node)) : Type 0 where
  pub old : Forest (Keyed Node)
  pub done : IsDone edit old new
  pub gone_are : gone ≡ elements_in (leaving edit old)
  pub indexed : IsIndexOf index old
