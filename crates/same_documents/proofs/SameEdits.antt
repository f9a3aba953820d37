-- Edits of same documents.
use Rattle.std.proofs.Common.{◌≡◌, ◌+◌, ◌&&◌, ℕ, Bool, false, cond, not, nat_le, nat_lt, List, length, Option, Some, None, is_some, refl, ap, ap₂, subst, ◌∙◌}
use Rattle.forest.specs.Forest.{Forest, Empty, Tree, size}
use Rattle.forest.specs.Keys.{Keyed, numbered, without_keys}
use Rattle.forest.specs.Paths.{on_path}
use Rattle.plain_types.specs.declared.edit.Edit.{Edit}
use Rattle.plain_types.specs.declared.edit.Edit.TheVariants.{Insert, Remove, Move, SetAttr, UnsetAttr, ReplaceSheet}
use Rattle.plain_types.specs.declared.node.Node.{Node}
use Rattle.node_arena.specs.AtPaths.{first_label, leads_into, once_out, removed_at}
use Rattle.node_arena.specs.Copies.{is_element}
use Rattle.node_arena.specs.Edits.{edited, has_room_at, is_element_at, is_inner_at, is_node_at, move_fault, no_place_unless, place_fault, set_attr, unset_attr}
use Rattle.node_arena.specs.declared.place_fault.PlaceFault.{PlaceFault}
use Rattle.node_arena.specs.declared.place_fault.PlaceFault.TheVariants.{NoPlace, IntoItself}
use Rattle.same_documents.specs.Sameness.{AreSame, AreSameKeyed, IsSameNode}
use Rattle.same_documents.proofs.AlikeLaws.{alike_child_count, alike_inserted, alike_moved, alike_on, alike_refl, alike_relabelled, alike_removed, alike_size, alike_sym, alike_trans}
use Rattle.same_documents.proofs.SameAttrs.{same_kind, same_node_refl, same_node_sym, same_node_trans, same_set, same_unset}

-- A sameness.

pub same_refl : (document : Forest Node) → AreSame document document
same_refl document = alike_refl IsSameNode same_node_refl document

pub same_sym : (document other : Forest Node) → AreSame document other → AreSame other document
same_sym document other h = alike_sym IsSameNode same_node_sym document other h

pub same_trans : (document other third : Forest Node) → AreSame document other → AreSame other third → AreSame document third
same_trans document other third h g = alike_trans IsSameNode same_node_trans document other third h g

-- Keys.

pub same_numbered : (place : ℕ) (x y : Forest Node) → AreSame x y → AreSameKeyed (numbered place x) (numbered place y)
same_numbered place Empty Empty h = tt
same_numbered place Empty (Tree m d s) h = absurd h
same_numbered place (Tree n c r) Empty h = absurd h
same_numbered place (Tree n c r) (Tree m d s) h = (
  (refl, h.0),
  same_numbered (place + 1) c d h.1,
  subst (λ k. AreSameKeyed (numbered (place + 1 + size c) r) (numbered (place + 1 + k) s)) (alike_size IsSameNode c d h.1) (same_numbered (place + 1 + size c) r s h.2),
)

pub same_bare : (x y : Forest (Keyed Node)) → AreSameKeyed x y → AreSame (without_keys x) (without_keys y)
same_bare Empty Empty h = tt
same_bare Empty (Tree m d s) h = absurd h
same_bare (Tree n c r) Empty h = absurd h
same_bare (Tree n c r) (Tree m d s) h = (h.0.1, same_bare c d h.1, same_bare r s h.2)

-- Places.

-- what stands first is a node, or an element
abbrev is_element_first : Forest Node → Bool
is_element_first tree = elim (first_label tree) [ None ↦ false | Some node ↦ is_element node ]

first_node_same : (x y : Forest Node) → AreSame x y → is_some (first_label x) ≡ is_some (first_label y)
first_node_same Empty Empty h = refl
first_node_same Empty (Tree m d s) h = absurd h
first_node_same (Tree n c r) Empty h = absurd h
first_node_same (Tree n c r) (Tree m d s) h = refl

first_element_same : (x y : Forest Node) → AreSame x y → is_element_first x ≡ is_element_first y
first_element_same Empty Empty h = refl
first_element_same Empty (Tree m d s) h = absurd h
first_element_same (Tree n c r) Empty h = absurd h
first_element_same (Tree n c r) (Tree m d s) h = same_kind n m h.0

module _ (x y : Forest Node) (h : AreSame x y) where
  node_same : (path : List ℕ) → is_node_at path x ≡ is_node_at path y
  node_same path = first_node_same (on_path path x) (on_path path y) (alike_on IsSameNode path x y h)

  element_same : (path : List ℕ) → is_element_at path x ≡ is_element_at path y
  element_same path = first_element_same (on_path path x) (on_path path y) (alike_on IsSameNode path x y h)

  inner_same : (path : List ℕ) → is_inner_at path x ≡ is_inner_at path y
  inner_same path = ap (λ b. nat_lt 0 (length path) && b) (node_same path)

  room_same : (parent : List ℕ) (index : ℕ) → has_room_at parent index x ≡ has_room_at parent index y
  room_same parent index = ap (nat_le index) (alike_child_count IsSameNode parent x y h)

move_same : (from parent : List ℕ) (index : ℕ) (x y : Forest Node) → AreSame x y → move_fault from parent index x ≡ move_fault from parent index y
move_same from parent index x y h =
    let fault : Bool → Bool → Bool → Option PlaceFault = λ inner element room. cond (not (inner && element)) (Some NoPlace) (cond (leads_into from parent) (Some IntoItself) (no_place_unless room)) in
    ap (λ b. fault b (is_element_at parent x) (has_room_at (once_out from parent) index (removed_at from x))) (inner_same x y h from)
    ∙ ap (λ b. fault (is_inner_at from y) b (has_room_at (once_out from parent) index (removed_at from x))) (element_same x y h parent)
    ∙ ap (fault (is_inner_at from y) (is_element_at parent y)) (room_same (removed_at from x) (removed_at from y) (alike_removed IsSameNode from x y h) (once_out from parent) index)

pub same_fault : (edit : Edit) (x y : Forest Node) → AreSame x y → place_fault edit x ≡ place_fault edit y
same_fault (Insert parent index fragment) x y h =
    ap₂ (λ element room. no_place_unless (element && room)) (element_same x y h parent) (room_same x y h parent index)
same_fault (Remove path) x y h = ap no_place_unless (inner_same x y h path)
same_fault (Move from parent index) x y h = move_same from parent index x y h
same_fault (SetAttr path name value) x y h = ap no_place_unless (element_same x y h path)
same_fault (UnsetAttr path name) x y h = ap no_place_unless (element_same x y h path)
same_fault (ReplaceSheet text) x y h = refl

-- What edits make.

pub same_edited : (edit : Edit) (x y : Forest Node) → AreSame x y → AreSame (edited edit x) (edited edit y)
same_edited (Insert parent index fragment) x y h = alike_inserted IsSameNode parent index fragment fragment (same_refl fragment) x y h
same_edited (Remove path) x y h = alike_removed IsSameNode path x y h
same_edited (Move from parent index) x y h = alike_moved IsSameNode from parent index x y h
same_edited (SetAttr path name value) x y h = alike_relabelled IsSameNode path (set_attr name value) (same_set name value) x y h
same_edited (UnsetAttr path name) x y h = alike_relabelled IsSameNode path (unset_attr name) (same_unset name) x y h
same_edited (ReplaceSheet text) x y h = h
