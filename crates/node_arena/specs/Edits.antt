-- What an edit makes of a document and its sheet, and which edits are refused (our own).
use Rattle.std.specs.Prelude.{◌≡◌, ◌+◌, ◌≤◌, ℕ, nat_le, nat_lt, Bool, true, false, not, ◌&&◌, if◌then◌else◌, List, [], ◌∷◌, length, filter, Option, Some, None, is_some}
use Rattle.forest.specs.Forest.{Forest}
use Rattle.forest.specs.Keys.{Keyed, times, without_keys}
use Rattle.forest.specs.Spots.{keyed}
use Rattle.plain_types.specs.declared.attr.Attr.{Attr}
use Rattle.plain_types.specs.declared.edit.Edit.{Edit}
use Rattle.plain_types.specs.declared.edit.Edit.TheVariants.{Insert, Remove, Move, SetAttr, UnsetAttr, ReplaceSheet}
use Rattle.plain_types.specs.declared.node.Node.{Node}
use Rattle.plain_types.specs.declared.node.Node.TheVariants.{Element, Text}
use Rattle.node_arena.specs.declared.place_fault.PlaceFault.{PlaceFault}
use Rattle.node_arena.specs.declared.place_fault.PlaceFault.TheVariants.{NoPlace, IntoItself}
use Rattle.node_arena.specs.AtPaths.{label_at, child_count_at, inserted_at, removed_at, relabelled_at, moved, leads_into, once_out}
use Rattle.node_arena.specs.Copies.{is_element}
use Rattle.plain_types.specs.Attributes.{is_named}

-- Attributes.

-- an attribute that is there keeps its place, and a new one goes last
abbrev pub with_attr : List ℕ → List ℕ → List Attr → List Attr
with_attr name value [] = record { name = name; value = value } ∷ []
with_attr name value (attr ∷ attrs) =
    if is_named name attr then record { name = name; value = value } ∷ attrs else attr ∷ with_attr name value attrs

abbrev pub without_attr : List ℕ → List Attr → List Attr
without_attr name attrs = filter (λ attr. not (is_named name attr)) attrs

abbrev pub set_attr : List ℕ → List ℕ → Node → Node
set_attr name value (Element tag attrs) = Element tag (with_attr name value attrs)
set_attr name value (Text characters) = Text characters

abbrev pub unset_attr : List ℕ → Node → Node
unset_attr name (Element tag attrs) = Element tag (without_attr name attrs)
unset_attr name (Text characters) = Text characters

-- Places.

abbrev pub is_node_at : List ℕ → Forest Node → Bool
is_node_at path tree = is_some (label_at path tree)

abbrev pub is_element_at : List ℕ → Forest Node → Bool
is_element_at path tree = elim (label_at path tree) [ None ↦ false | Some node ↦ is_element node ]

-- a node other than the root
abbrev pub is_inner_at : List ℕ → Forest Node → Bool
is_inner_at path tree = nat_lt 0 (length path) && is_node_at path tree

-- a node may become the child of this index of the node at a path
abbrev pub has_room_at : List ℕ → ℕ → Forest Node → Bool
has_room_at parent index tree = nat_le index (child_count_at parent tree)

abbrev pub no_place_unless : Bool → Option PlaceFault
no_place_unless true = None
no_place_unless false = Some NoPlace

-- A move has no place where its paths lead nowhere, whatever its index. Then it may go into itself. Then
-- the index is counted among the children that the parent has once the node is taken out.
abbrev pub move_fault : List ℕ → List ℕ → ℕ → Forest Node → Option PlaceFault
move_fault from parent index tree =
    if not (is_inner_at from tree && is_element_at parent tree) then Some NoPlace
    else (if leads_into from parent then Some IntoItself
    else no_place_unless (has_room_at (once_out from parent) index (removed_at from tree)))

-- why the edit is refused, if it is
abbrev pub place_fault : Edit → Forest Node → Option PlaceFault
place_fault (Insert parent index fragment) tree = no_place_unless (is_element_at parent tree && has_room_at parent index tree)
place_fault (Remove path) tree = no_place_unless (is_inner_at path tree)
place_fault (Move from parent index) tree = move_fault from parent index tree
place_fault (SetAttr path name value) tree = no_place_unless (is_element_at path tree)
place_fault (UnsetAttr path name) tree = no_place_unless (is_element_at path tree)
place_fault (ReplaceSheet text) tree = None

-- What an edit makes of a document and its sheet, where it isn't refused.

abbrev pub edited : Edit → Forest Node → Forest Node
edited (Insert parent index fragment) tree = inserted_at parent index fragment tree
edited (Remove path) tree = removed_at path tree
edited (Move from parent index) tree = moved from parent index tree
edited (SetAttr path name value) tree = relabelled_at path (set_attr name value) tree
edited (UnsetAttr path name) tree = relabelled_at path (unset_attr name) tree
edited (ReplaceSheet text) tree = tree

abbrev pub edited_sheet : Edit → List ℕ → List ℕ
edited_sheet (ReplaceSheet text) sheet = text
edited_sheet edit sheet = sheet

-- The same of a document with keys.

-- no node of either has the key of another
abbrev pub HasKeysApart : Forest (Keyed Node) → Forest (Keyed Node) → Type 0
HasKeysApart first second = (key : ℕ) → (times key first + times key second) ≤ 1

-- a node with its key, changed
abbrev pub with_its_key : (Node → Node) → Keyed Node → Keyed Node
with_its_key change node = keyed node.key (change node.label)

-- nodes that stay keep their keys, and inserted ones have keys that no node had
abbrev pub KeepsKeys : Edit → Forest (Keyed Node) → Forest (Keyed Node) → Type 0
KeepsKeys (Insert parent index fragment) old new =
    (inserted : Forest (Keyed Node)) × (without_keys inserted ≡ fragment) × HasKeysApart inserted old × (new ≡ inserted_at parent index inserted old)
KeepsKeys (Remove path) old new = new ≡ removed_at path old
KeepsKeys (Move from parent index) old new = new ≡ moved from parent index old
KeepsKeys (SetAttr path name value) old new = new ≡ relabelled_at path (with_its_key (set_attr name value)) old
KeepsKeys (UnsetAttr path name) old new = new ≡ relabelled_at path (with_its_key (unset_attr name)) old
KeepsKeys (ReplaceSheet text) old new = new ≡ old

-- the second keyed tree is what the edit makes of the first
pub record IsEdited (edit : Edit) (old new : Forest (Keyed Node)) : Type 0 where
  pub tree : without_keys new ≡ edited edit (without_keys old)
  pub keys : KeepsKeys edit old new
