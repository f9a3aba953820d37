-- The merge of a document before an edit and after it, and its stops (our own).
use Rattle.std.specs.Prelude.{ℕ, Bool, List, [], ◌∷◌, ◌++◌, is_some, unwrap_or}
use Rattle.forest.specs.Forest.{Forest}
use Rattle.forest.specs.Keys.{Keyed}
use Rattle.forest.specs.Paths.{key_at, on_path}
use Rattle.plain_types.specs.declared.edit.Edit.{Edit}
use Rattle.plain_types.specs.declared.edit.Edit.TheVariants.{Insert, Remove, Move, SetAttr, UnsetAttr, ReplaceSheet}
use Rattle.plain_types.specs.declared.node.Node.{Node}
use Rattle.node_arena.specs.Changes.{alone}
use Rattle.node_arena.specs.Edits.{set_attr, unset_attr, with_its_key}
use Rattle.node_arena.specs.Nodes.{node_name}
use Rattle.merged_walk.specs.declared.stop.Stop.{Stop}
use Rattle.merged_walk.specs.Merges.{Merge, all_kept}
use Rattle.merged_walk.specs.Edits.{insertion, moving, relabelling, removal}
use Rattle.merged_walk.specs.EditStops.{insertion_stops, moving_stops, relabelling_stops, removal_stops}

abbrev pub is_element : Node → Bool
is_element node = is_some (node_name node)

-- the tree that an insertion puts in, as it stands in the tree after it
abbrev pub inserted_tree : List ℕ → ℕ → Forest (Keyed Node) → Forest (Keyed Node)
inserted_tree parent index new = alone (on_path (parent ++ index ∷ []) new)

-- the merge of a document and of what the edit makes of it
abbrev pub edit_merge : Edit → (old new : Forest (Keyed Node)) → Merge Node
edit_merge (Insert parent index fragment) old new = insertion parent index (inserted_tree parent index new) old
edit_merge (Remove path) old new = removal path old
edit_merge (Move from parent index) old new = moving from parent index old
edit_merge (SetAttr path name value) old new = relabelling path (with_its_key (set_attr name value)) old
edit_merge (UnsetAttr path name) old new = relabelling path (with_its_key (unset_attr name)) old
edit_merge (ReplaceSheet text) old new = all_kept old

-- the key of the node that a move takes from a path
abbrev pub moved_key : List ℕ → Forest (Keyed Node) → ℕ
moved_key from old = unwrap_or (key_at old from) 0

-- the stops of an edit, by paths in the document before it, where the root that it inserts has this key
abbrev pub edit_stops : Edit → ℕ → Forest (Keyed Node) → List Stop
edit_stops (Insert parent index fragment) key old = insertion_stops is_element (parent ++ index ∷ []) key old
edit_stops (Remove path) key old = removal_stops is_element path old
edit_stops (Move from parent index) key old = moving_stops is_element from parent index (moved_key from old) old
edit_stops (SetAttr path name value) key old = relabelling_stops is_element path old
edit_stops (UnsetAttr path name) key old = relabelling_stops is_element path old
edit_stops (ReplaceSheet text) key old = []

-- the key of the root that an edit inserts, in the document after it; 0 where it inserts none
abbrev pub inserted_key : Edit → Forest (Keyed Node) → ℕ
inserted_key (Insert parent index fragment) new = unwrap_or (key_at new (parent ++ index ∷ [])) 0
inserted_key (Remove path) new = 0
inserted_key (Move from parent index) new = 0
inserted_key (SetAttr path name value) new = 0
inserted_key (UnsetAttr path name) new = 0
inserted_key (ReplaceSheet text) new = 0
