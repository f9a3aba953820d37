-- The nodes of an edit that can give an id another target (our own, over DOM, 4.2.4 and 4.9).
use Rattle.std.specs.Prelude.{◌≡◌, ℕ, false, List, [], ◌∷◌, ◌++◌}
use Rattle.forest.specs.Forest.{Forest, Empty, Tree}
use Rattle.forest.specs.Keys.{Keyed}
use Rattle.forest.specs.Paths.{on_path}
use Rattle.plain_types.specs.declared.edit.Edit.{Edit}
use Rattle.plain_types.specs.declared.edit.Edit.TheVariants.{Insert, Remove, Move, SetAttr, UnsetAttr, ReplaceSheet}
use Rattle.plain_types.specs.declared.node.Node.{Node}
use Rattle.node_arena.specs.Changes.{alone}
use Rattle.generated_texts.specs.References.{first_holder}
use Rattle.edit_merge.specs.Laws.{OfEachEdit}
use Rattle.reference_reach.specs.MergedNodes.{is_held_in}

-- the first node of trees, without what is under it and after it
abbrev pub first_node : Forest (Keyed Node) → Forest (Keyed Node)
first_node Empty = Empty
first_node (Tree node children after) = Tree node Empty Empty

-- in the document before the edit: the tree that it takes out or moves, or the element whose attributes it changes
abbrev pub leaving_nodes : Edit → Forest (Keyed Node) → Forest (Keyed Node)
leaving_nodes (Insert parent index fragment) old = Empty
leaving_nodes (Remove path) old = alone (on_path path old)
leaving_nodes (Move from parent index) old = alone (on_path from old)
leaving_nodes (SetAttr path name value) old = first_node (on_path path old)
leaving_nodes (UnsetAttr path name) old = first_node (on_path path old)
leaving_nodes (ReplaceSheet text) old = Empty

-- and in the one after it: the tree that it puts in, or that element as it is now
abbrev pub coming_nodes : Edit → Forest (Keyed Node) → Forest (Keyed Node)
coming_nodes (Insert parent index fragment) new = alone (on_path (parent ++ index ∷ []) new)
coming_nodes (Remove path) new = Empty
coming_nodes (Move from parent index) new = Empty
coming_nodes (SetAttr path name value) new = first_node (on_path path new)
coming_nodes (UnsetAttr path name) new = first_node (on_path path new)
coming_nodes (ReplaceSheet text) new = Empty

-- an id that none of these has keeps its target
abbrev pub OthersKeepTargets : Type 0
OthersKeepTargets =
    OfEachEdit (λ edit old new. (id : List ℕ) → is_held_in id (leaving_nodes edit old) ≡ false → is_held_in id (coming_nodes edit new) ≡ false
    → first_holder new id ≡ first_holder old id)
