-- The edit that undoes an edit (our own). Paths and edits are those of node_arena.
use Rattle.std.specs.Prelude.{ℕ, ◌+◌, ◌-◌, ◌==◌, nat_lt, if◌then◌else◌, List, [], ◌∷◌, ◌++◌, length, take, Option, Some, None, unwrap_or}
use Rattle.std.specs.List.{last_or}
use Rattle.std.specs.Option.{option_and_then}
use Rattle.forest.specs.Forest.{Forest}
use Rattle.forest.specs.Paths.{on_path}
use Rattle.plain_types.specs.Attributes.{value_of}
use Rattle.plain_types.specs.declared.edit.Edit.{Edit}
use Rattle.plain_types.specs.declared.edit.Edit.TheVariants.{Insert, Remove, Move, SetAttr, UnsetAttr, ReplaceSheet}
use Rattle.plain_types.specs.declared.node.Node.{Node}
use Rattle.node_arena.specs.AtPaths.{label_at, once_out}
use Rattle.node_arena.specs.Changes.{alone}
use Rattle.node_arena.specs.Nodes.{node_attrs}

-- Places.

-- the path of a node's parent: all but its last position
abbrev pub parent_path : List ℕ → List ℕ
parent_path path = take (length path - 1) path

-- a node's index: the last position of its path
abbrev pub last_position : List ℕ → ℕ
last_position path = unwrap_or (last_or None path) 0

-- where a path leads once a node has come to stand at another path: the siblings from there on move on by one
abbrev pub once_in : List ℕ → List ℕ → List ℕ
once_in [] path = path
once_in (come ∷ above) [] = []
once_in (come ∷ []) (position ∷ path) = (if nat_lt position come then position else position + 1) ∷ path
once_in (step ∷ (next ∷ above)) (position ∷ path) = position ∷ (if step == position then once_in (next ∷ above) path else path)

-- where a node stands that has become the child of this index of the node at a path
abbrev pub child_at : List ℕ → ℕ → List ℕ
child_at parent index = parent ++ index ∷ []

-- Attributes.

-- the value of an attribute of the node at a path
abbrev pub value_at : List ℕ → List ℕ → Forest Node → Option (List ℕ)
value_at path name document = option_and_then (λ (node : Node). value_of name (node_attrs node)) (label_at path document)

-- the edit by which an attribute of the node at a path has this value, or isn't there
abbrev pub with_value : List ℕ → List ℕ → Option (List ℕ) → Edit
with_value path name None = UnsetAttr path name
with_value path name (Some value) = SetAttr path name value

-- by which it is as it is in this document
abbrev pub as_it_is : List ℕ → List ℕ → Forest Node → Edit
as_it_is path name document = with_value path name (value_at path name document)

-- The insertion that undoes a removal: it puts the node, with all that was under it, where it was.
abbrev pub put_back : List ℕ → Forest Node → Edit
put_back path document = Insert (parent_path path) (last_position path) (alone (on_path path document))

-- The move that undoes a move: it takes the node from where it came to; the former parent has the path that it has while
-- the node stands there.
abbrev pub move_back : List ℕ → List ℕ → Edit
move_back from there = Move there (once_in there (parent_path from)) (last_position from)

-- The edit that undoes an edit of this document under the sheet of this text: an inserted node is removed; a removed one
-- is inserted at its place, with all that was under it; a moved one is moved back; an attribute has the value again that
-- it had; and the sheet is that of its text again.
abbrev pub inverse_of : Edit → Forest Node → List ℕ → Edit
inverse_of (Insert parent index fragment) document sheet = Remove (child_at parent index)
inverse_of (Remove path) document sheet = put_back path document
inverse_of (Move from parent index) document sheet = move_back from (child_at (once_out from parent) index)
inverse_of (SetAttr path name value) document sheet = as_it_is path name document
inverse_of (UnsetAttr path name) document sheet = as_it_is path name document
inverse_of (ReplaceSheet text) document sheet = ReplaceSheet sheet
