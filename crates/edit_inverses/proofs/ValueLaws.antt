-- Attributes that are set or unset, and then have the value again that they had.
use Rattle.std.proofs.Common.{◌≡◌, ℕ, true, false, cond, List, Option, Some, None, bytes_eq, refl, sym, ap, ◌∙◌, inl, inr}
use Rattle.std.proofs.lemmas.Bool.{cases_Bool}
use Rattle.forest.specs.Forest.{Forest}
use Rattle.forest.specs.Paths.{on_path}
use Rattle.plain_types.specs.Attributes.{value_of}
use Rattle.plain_types.specs.Tree.{AreSound}
use Rattle.plain_types.specs.declared.attr.Attr.{Attr}
use Rattle.plain_types.specs.declared.edit.Edit.TheVariants.{SetAttr, UnsetAttr}
use Rattle.plain_types.specs.declared.node.Node.{Node}
use Rattle.plain_types.specs.declared.node.Node.TheVariants.{Element, Text}
use Rattle.node_arena.specs.AtPaths.{relabelled_at, with_label}
use Rattle.node_arena.specs.Copies.{is_element}
use Rattle.node_arena.specs.Edits.{edited, is_element_at, no_place_unless, set_attr, unset_attr, with_attr, without_attr}
use Rattle.node_arena.specs.Nodes.{node_attrs}
use Rattle.node_arena.proofs.AtPathLaws.{on-changed}
use Rattle.same_documents.specs.Sameness.{AreSame, AreSameAttrs, IsSameNode}
use Rattle.same_documents.proofs.AlikeLaws.{alike_refl}
use Rattle.same_documents.proofs.SameAttrs.{eq_is, same_node_refl, value_with, value_without}
use Rattle.edit_inverses.specs.Inverses.{as_it_is, value_at, with_value}
use Rattle.edit_inverses.specs.Laws.{IsAllowed}
use Rattle.edit_inverses.proofs.PlaceLaws.{HasElementFirst, element_first, element_there, there_unless}
use Rattle.edit_inverses.proofs.SoundLaws.{sound_at, sound_on, sound_set, sound_unset}
use Rattle.edit_inverses.proofs.TreeLaws.{at_alike, at_both}

-- A change of attributes that leaves the values of all other names.
abbrev LeavesOthers : List ℕ → (List Attr → List Attr) → Type 0
LeavesOthers name change = (other : List ℕ) (attrs : List Attr) → bytes_eq name other ≡ false → value_of other (change attrs) ≡ value_of other attrs

set_leaves : (name value : List ℕ) → LeavesOthers name (with_attr name value)
set_leaves name value other attrs e = value_with other name value attrs ∙ ap (λ b. cond b (Some value) (value_of other attrs)) e

unset_leaves : (name : List ℕ) → LeavesOthers name (without_attr name)
unset_leaves name other attrs e = value_without other name attrs ∙ ap (λ b. cond b None (value_of other attrs)) e

module _ (name : List ℕ) (change : List Attr → List Attr) (leaves : LeavesOthers name change) (attrs : List Attr) where
  -- once the name has its value again, all have
  set_again : (value : List ℕ) → value_of name attrs ≡ Some value → AreSameAttrs (with_attr name value (change attrs)) attrs
  set_again value is other = value_with other name value (change attrs) ∙ elim (cases_Bool (bytes_eq name other)) [
    | inl e ↦ rw e (sym is ∙ ap (λ n. value_of n attrs) (eq_is name other e))
    | inr e ↦ rw e (leaves other attrs e)
  ]

  unset_again : value_of name attrs ≡ None → AreSameAttrs (without_attr name (change attrs)) attrs
  unset_again is other = value_without other name (change attrs) ∙ elim (cases_Bool (bytes_eq name other)) [
    | inl e ↦ rw e (sym is ∙ ap (λ n. value_of n attrs) (eq_is name other e))
    | inr e ↦ rw e (leaves other attrs e)
  ]

-- The same of the node at a path.

-- a change of a node's attributes
abbrev pub changed_attrs : (List Attr → List Attr) → Node → Node
changed_attrs change (Element tag attrs) = Element tag (change attrs)
changed_attrs change (Text characters) = Text characters

set_is : (name value : List ℕ) (node : Node) → set_attr name value node ≡ changed_attrs (with_attr name value) node
set_is name value (Element tag attrs) = refl
set_is name value (Text characters) = refl

unset_is : (name : List ℕ) (node : Node) → unset_attr name node ≡ changed_attrs (without_attr name) node
unset_is name (Element tag attrs) = refl
unset_is name (Text characters) = refl

module _ (name : List ℕ) (change : List Attr → List Attr) (leaves : LeavesOthers name change) where
  node_set_again : (value : List ℕ) (node : Node) → is_element node ≡ true → value_of name (node_attrs node) ≡ Some value → IsSameNode (set_attr name value (changed_attrs change node)) node
  node_set_again value (Element tag attrs) element is = (refl, set_again name change leaves attrs value is)
  node_set_again value (Text characters) element is = refl

  node_unset_again : (node : Node) → is_element node ≡ true → value_of name (node_attrs node) ≡ None → IsSameNode (unset_attr name (changed_attrs change node)) node
  node_unset_again (Element tag attrs) element is = (refl, unset_again name change leaves attrs is)
  node_unset_again (Text characters) element is = refl

  module _ (both : Node → Node) (both_is : (node : Node) → both node ≡ changed_attrs change node) (path : List ℕ) (document : Forest Node) (there : HasElementFirst (on_path path document)) where
    value_is : value_at path name document ≡ value_of name (node_attrs there.first.label)
    value_is = rw there.first.is refl

    -- one change after the other
    module _ (back : Node → Node) (same : IsSameNode (back (changed_attrs change there.first.label)) there.first.label) where
      first_same : AreSame (with_label back (with_label both (on_path path document))) (on_path path document)
      first_same =
          rw (there.first.is, both_is there.first.label)
          (same, alike_refl IsSameNode same_node_refl there.first.children, alike_refl IsSameNode same_node_refl there.first.after)

      both_same : AreSame (relabelled_at path back (relabelled_at path both document)) document
      both_same =
          rw (at_both (with_label both) (with_label back) path document)
          (at_alike IsSameNode same_node_refl (λ y. with_label back (with_label both y)) path document first_same)

    back_same : (had : Option (List ℕ)) → value_of name (node_attrs there.first.label) ≡ had → AreSame (edited (with_value path name had) (relabelled_at path both document)) document
    back_same None is = both_same (unset_attr name) (node_unset_again there.first.label there.element is)
    back_same (Some value) is = both_same (set_attr name value) (node_set_again value there.first.label there.element is)

    pub value_undone : AreSame (edited (as_it_is path name document) (relabelled_at path both document)) document
    value_undone = back_same (value_at path name document) (sym value_is)

    changed_kind : (node : Node) → is_element node ≡ true → is_element (changed_attrs change node) ≡ true
    changed_kind (Element tag attrs) e = refl
    changed_kind (Text characters) e = e

    still_there : is_element_at path (relabelled_at path both document) ≡ true
    still_there =
        element_there path (relabelled_at path both document) (both there.first.label) there.first.children there.first.after
        (on-changed (with_label both) path document refl ∙ ap (with_label both) there.first.is)
        (ap is_element (both_is there.first.label) ∙ changed_kind there.first.label there.element)

    back_allowed : (had : Option (List ℕ)) → AreSound (relabelled_at path both document) → IsAllowed (with_value path name had) (relabelled_at path both document)
    back_allowed None sound = record { sound = sound; inserts = tt; place = ap no_place_unless still_there }
    back_allowed (Some value) sound = record { sound = sound; inserts = tt; place = ap no_place_unless still_there }

    pub value_allowed : AreSound (relabelled_at path both document) → IsAllowed (as_it_is path name document) (relabelled_at path both document)
    value_allowed = back_allowed (value_at path name document)

-- The two edits.

found : (path : List ℕ) (document : Forest Node) → no_place_unless (is_element_at path document) ≡ None → HasElementFirst (on_path path document)
found path document place = element_first (on_path path document) (there_unless (is_element_at path document) place)

pub set_undone : (path name value : List ℕ) (document : Forest Node) → IsAllowed (SetAttr path name value) document → AreSame (edited (as_it_is path name document) (relabelled_at path (set_attr name value) document)) document
set_undone path name value document allowed =
    value_undone name (with_attr name value) (set_leaves name value) (set_attr name value) (set_is name value) path document (found path document allowed.place)

pub unset_undone : (path name : List ℕ) (document : Forest Node) → IsAllowed (UnsetAttr path name) document → AreSame (edited (as_it_is path name document) (relabelled_at path (unset_attr name) document)) document
unset_undone path name document allowed =
    value_undone name (without_attr name) (unset_leaves name) (unset_attr name) (unset_is name) path document (found path document allowed.place)

pub set_allowed : (path name value : List ℕ) (document : Forest Node) → IsAllowed (SetAttr path name value) document → IsAllowed (as_it_is path name document) (relabelled_at path (set_attr name value) document)
set_allowed path name value document allowed =
    value_allowed name (with_attr name value) (set_leaves name value) (set_attr name value) (set_is name value) path document (found path document allowed.place)
    (sound_at (with_label (set_attr name value)) refl path document allowed.sound (sound_set name value (on_path path document) (sound_on path document allowed.sound)))

pub unset_allowed : (path name : List ℕ) (document : Forest Node) → IsAllowed (UnsetAttr path name) document → IsAllowed (as_it_is path name document) (relabelled_at path (unset_attr name) document)
unset_allowed path name document allowed =
    value_allowed name (without_attr name) (unset_leaves name) (unset_attr name) (unset_is name) path document (found path document allowed.place)
    (sound_at (with_label (unset_attr name)) refl path document allowed.sound (sound_unset name (on_path path document) (sound_on path document allowed.sound)))
