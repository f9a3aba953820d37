-- Trees in which no element is hidden or styled by its name or its attributes, and what edits keep of them.
use Rattle.std.proofs.Common.{◌≡◌, ℕ, zero, suc, Bool, true, false, not, List, [], ◌∷◌, Some, None, filter, refl, sym, ap, subst, ◌∙◌, inl, inr, codes}
use Rattle.std.specs.Cmp.Lexicographic.{pointwise}
use Rattle.std.specs.Prelude.{nat_eq}
use Rattle.std.specs.List.{list_any}
use Rattle.std.specs.Str.{bytes_eq}
use Rattle.std.proofs.lemmas.Bool.{cases_Bool}
use Rattle.forest.specs.Forest.{Forest, Empty, Tree}
use Rattle.forest.specs.Changes.{splice}
use Rattle.forest.specs.Paths.{on_path, trees_from}
use Rattle.plain_types.specs.Attributes.{is_named, value_of}
use Rattle.plain_types.specs.Tree.{AreSound, HasDistinctNames}
use Rattle.plain_types.specs.declared.attr.Attr.{Attr}
use Rattle.plain_types.specs.declared.node.Node.{Node}
use Rattle.plain_types.specs.declared.node.Node.TheVariants.{Element, Text}
use Rattle.node_arena.specs.AtPaths.{at_path, first_label, from_position, with_children, with_label, with_tree, without_first}
use Rattle.node_arena.specs.Copies.{is_element}
use Rattle.node_arena.specs.Edits.{set_attr, unset_attr, with_attr, without_attr}
use Rattle.node_arena.proofs.AttrLaws.{distinct-with, distinct-without}

-- the names of the elements that the user agent hides
abbrev pub hidden_names : List (List ℕ)
hidden_names =
    codes "area" ∷ codes "base" ∷ codes "datalist" ∷ codes "head" ∷ codes "link" ∷ codes "meta" ∷ codes "noembed" ∷ codes "noframes" ∷ codes "param" ∷ codes "rp"
    ∷ codes "script" ∷ codes "style" ∷ codes "template" ∷ codes "title" ∷ []

-- neither its name nor an attribute hides the element, or styles it
pub record IsPlain (name : List ℕ) (attrs : List Attr) : Type 0 where
  pub shown : list_any (bytes_eq name) hidden_names ≡ false
  pub unhidden : value_of (codes "hidden") attrs ≡ None
  pub unstyled : value_of (codes "style") attrs ≡ None
  pub distinct : HasDistinctNames attrs

-- each element is plain, and no text has children
abbrev pub ArePlain : Forest Node → Type 0
ArePlain Empty = Unit {0}
ArePlain (Tree (Element name attrs) children after) = IsPlain name attrs × ArePlain children × ArePlain after
ArePlain (Tree (Text characters) children after) = (children ≡ Empty) × ArePlain after

pub plain_sound : (trees : Forest Node) → ArePlain trees → AreSound trees
plain_sound Empty plain = tt
plain_sound (Tree (Element name attrs) children after) plain = (plain.0.distinct, plain_sound children plain.1, plain_sound after plain.2)
plain_sound (Tree (Text characters) children after) plain = (plain.0, plain_sound after plain.1)

-- Attributes.

-- no attribute has this name, neither the first nor another
none_later : (name : List ℕ) (attr : Attr) (attrs : List Attr) → value_of name (attr ∷ attrs) ≡ None → (is_named name attr ≡ false) × (value_of name attrs ≡ None)
none_later name attr attrs none = elim (cases_Bool (is_named name attr)) [
  | inl e ↦ absurd (let some : value_of name (attr ∷ attrs) ≡ Some attr.value = rw e refl in cc)
  | inr e ↦ (e, rw e at none)
]

none_with : (name other value : List ℕ) (attrs : List Attr) → pointwise nat_eq other name ≡ false → value_of name attrs ≡ None → value_of name (with_attr other value attrs) ≡ None
none_with name other value [] apart none = rw apart refl
none_with name other value (attr ∷ attrs) apart none =
    let parts = none_later name attr attrs none in
    elim (cases_Bool (is_named other attr)) [
      | inl e ↦ rw (e, apart) parts.1
      | inr e ↦ rw (e, parts.0) (none_with name other value attrs apart parts.1)
    ]

none_kept : (name : List ℕ) (keeps : Attr → Bool) (attrs : List Attr) → value_of name attrs ≡ None → value_of name (filter keeps attrs) ≡ None
none_kept name keeps [] none = refl
none_kept name keeps (attr ∷ attrs) none =
    let parts = none_later name attr attrs none in
    elim (cases_Bool (keeps attr)) [
      | inl e ↦ rw (e, parts.0) (none_kept name keeps attrs parts.1)
      | inr e ↦ rw e (none_kept name keeps attrs parts.1)
    ]

plain_with : (name : List ℕ) (value : List ℕ) (attrs : List Attr) → IsPlain name attrs → IsPlain name (with_attr (codes "value") value attrs)
plain_with name value attrs plain = record {
  shown = plain.shown;
  unhidden = none_with (codes "hidden") (codes "value") value attrs refl plain.unhidden;
  unstyled = none_with (codes "style") (codes "value") value attrs refl plain.unstyled;
  distinct = distinct-with (codes "value") value attrs plain.distinct;
}

plain_without : (name other : List ℕ) (attrs : List Attr) → IsPlain name attrs → IsPlain name (without_attr other attrs)
plain_without name other attrs plain = record {
  shown = plain.shown;
  unhidden = none_kept (codes "hidden") (λ attr. not (is_named other attr)) attrs plain.unhidden;
  unstyled = none_kept (codes "style") (λ attr. not (is_named other attr)) attrs plain.unstyled;
  distinct = distinct-without other attrs plain.distinct;
}

-- Trees at a path.

nothing_changed : (change : Forest Node → Forest Node) → change Empty ≡ Empty → (path : List ℕ) → at_path change path Empty ≡ Empty
nothing_changed change none [] = none
nothing_changed change none (position ∷ path) = refl

from_nothing : (change : Forest Node → Forest Node) → change Empty ≡ Empty → (position : ℕ) → from_position change position Empty ≡ Empty
from_nothing change none zero = none
from_nothing change none (suc position) = refl

-- what is changed where a path leads stays plain, where the change keeps it so under this condition
module _ (IsOnlyAt : Forest Node → Type 0) where
  from_plain : (change : Forest Node → Forest Node) (path : List ℕ) → ((trees : Forest Node) → IsOnlyAt (on_path path trees) → ArePlain trees → ArePlain (change trees))
      → (position : ℕ) (trees : Forest Node) → IsOnlyAt (on_path path (trees_from position trees)) → ArePlain trees → ArePlain (from_position change position trees)
  from_plain change path keeps zero trees there plain = keeps trees there plain
  from_plain change path keeps (suc position) Empty there plain = tt
  from_plain change path keeps (suc position) (Tree (Element name attrs) children after) there plain = (plain.0, plain.1, from_plain change path keeps position after there plain.2)
  from_plain change path keeps (suc position) (Tree (Text characters) children after) there plain = (plain.0, from_plain change path keeps position after there plain.1)

  at_plain : (change : Forest Node → Forest Node) → change Empty ≡ Empty → ((trees : Forest Node) → IsOnlyAt trees → ArePlain trees → ArePlain (change trees))
      → (path : List ℕ) (trees : Forest Node) → IsOnlyAt (on_path path trees) → ArePlain trees → ArePlain (at_path change path trees)
  at_plain change none keeps [] trees there plain = keeps trees there plain
  at_plain change none keeps (position ∷ path) Empty there plain = tt
  at_plain change none keeps (position ∷ path) (Tree (Element name attrs) children after) there plain =
      (plain.0, from_plain (at_path change path) path (at_plain change none keeps path) position children there plain.1, plain.2)
  at_plain change none keeps (position ∷ path) (Tree (Text characters) children after) there plain =
      (ap (from_position (at_path change path) position) plain.0 ∙ from_nothing (at_path change path) (nothing_changed change none path) position, plain.1)

-- The parts of plain trees.

from_part : (position : ℕ) (trees : Forest Node) → ArePlain trees → ArePlain (trees_from position trees)
from_part zero trees plain = plain
from_part (suc position) Empty plain = tt
from_part (suc position) (Tree (Element name attrs) children after) plain = from_part position after plain.2
from_part (suc position) (Tree (Text characters) children after) plain = from_part position after plain.1

nothing_on : (path : List ℕ) (trees : Forest Node) → trees ≡ Empty → (position : ℕ) → ArePlain (on_path path (trees_from position trees))
nothing_on path trees none position = let P : Forest Node → Type 0 = λ t. ArePlain (on_path path (trees_from position t)) in subst P (sym none) (empty path position)
  where
    empty : (path : List ℕ) (position : ℕ) → ArePlain (on_path path (trees_from position Empty))
    empty [] zero = tt
    empty [] (suc position) = tt
    empty (step ∷ path) zero = tt
    empty (step ∷ path) (suc position) = tt

pub part_plain : (path : List ℕ) (trees : Forest Node) → ArePlain trees → ArePlain (on_path path trees)
part_plain [] trees plain = plain
part_plain (position ∷ path) Empty plain = tt
part_plain (position ∷ path) (Tree (Element name attrs) children after) plain = part_plain path (trees_from position children) (from_part position children plain.1)
part_plain (position ∷ path) (Tree (Text characters) children after) plain = nothing_on path children plain.0 position

-- The changes.

spliced_plain : (index : ℕ) (node : Node) (children trees : Forest Node) → ArePlain (Tree node children Empty) → ArePlain trees → ArePlain (splice index node children trees)
spliced_plain zero (Element name attrs) children trees plain others = (plain.0, plain.1, others)
spliced_plain zero (Text characters) children trees plain others = (plain.0, others)
spliced_plain (suc index) node children Empty plain others = plain
spliced_plain (suc index) node children (Tree (Element name attrs) inside after) plain others = (others.0, others.1, spliced_plain index node children after plain others.2)
spliced_plain (suc index) node children (Tree (Text characters) inside after) plain others = (others.0, spliced_plain index node children after plain others.1)

first_plain : (node : Node) (children after : Forest Node) → ArePlain (Tree node children after) → ArePlain (Tree node children Empty)
first_plain (Element name attrs) children after plain = (plain.0, plain.1, tt)
first_plain (Text characters) children after plain = (plain.0, tt)

-- a tree more
with_plain : (index : ℕ) (fragment : Forest Node) → ArePlain fragment → (trees : Forest Node) → ArePlain trees → ArePlain (with_tree index fragment trees)
with_plain index Empty plain trees others = others
with_plain index (Tree node children after) plain trees others = spliced_plain index node children trees (first_plain node children after plain) others

-- the first tree is an element
abbrev pub IsElementFirst : Forest Node → Type 0
IsElementFirst trees = elim (first_label trees) [ None ↦ false | Some node ↦ is_element node ] ≡ true

pub inserted_plain : (parent : List ℕ) (index : ℕ) (fragment tree : Forest Node) → IsElementFirst (on_path parent tree) → ArePlain fragment → ArePlain tree
    → ArePlain (at_path (with_children (with_tree index fragment)) parent tree)
inserted_plain parent index fragment tree element new plain = at_plain IsElementFirst (with_children (with_tree index fragment)) refl inside parent tree element plain
  where
    inside : (trees : Forest Node) → IsElementFirst trees → ArePlain trees → ArePlain (with_children (with_tree index fragment) trees)
    inside Empty element plain = tt
    inside (Tree (Element name attrs) children after) element plain = (plain.0, with_plain index fragment new children plain.1, plain.2)
    inside (Tree (Text characters) children after) element plain = absurd (cc)

pub removed_plain : (path : List ℕ) (tree : Forest Node) → ArePlain tree → ArePlain (at_path without_first path tree)
removed_plain path tree plain = at_plain (λ trees. Unit {0}) without_first refl others path tree tt plain
  where
    others : (trees : Forest Node) → Unit {0} → ArePlain trees → ArePlain (without_first trees)
    others Empty any plain = tt
    others (Tree (Element name attrs) children after) any plain = plain.2
    others (Tree (Text characters) children after) any plain = plain.1

-- a label that is changed
relabelled_plain : (change : Node → Node) → ((name : List ℕ) (attrs : List Attr) → (new : List Attr) × (change (Element name attrs) ≡ Element name new) × (IsPlain name attrs → IsPlain name new))
    → ((characters : List ℕ) → change (Text characters) ≡ Text characters) → (path : List ℕ) (tree : Forest Node) → ArePlain tree → ArePlain (at_path (with_label change) path tree)
relabelled_plain change elements texts path tree plain = at_plain (λ trees. Unit {0}) (with_label change) refl changed path tree tt plain
  where
    changed : (trees : Forest Node) → Unit {0} → ArePlain trees → ArePlain (with_label change trees)
    changed Empty any plain = tt
    changed (Tree (Element name attrs) children after) any plain =
        let new = elements name attrs in
        let P : Node → Type 0 = λ node. ArePlain (Tree node children after) in
        subst P (sym new.1) (new.2 plain.0, plain.1, plain.2)
    changed (Tree (Text characters) children after) any plain = let P : Node → Type 0 = λ node. ArePlain (Tree node children after) in subst P (sym (texts characters)) plain

pub set_plain : (value path : List ℕ) (tree : Forest Node) → ArePlain tree → ArePlain (at_path (with_label (set_attr (codes "value") value)) path tree)
set_plain value path tree plain =
    relabelled_plain (set_attr (codes "value") value) (λ name attrs. (with_attr (codes "value") value attrs, refl, plain_with name value attrs)) (λ characters. refl) path tree plain

pub unset_plain : (name path : List ℕ) (tree : Forest Node) → ArePlain tree → ArePlain (at_path (with_label (unset_attr name)) path tree)
unset_plain name path tree plain = relabelled_plain (unset_attr name) (λ tag attrs. (without_attr name attrs, refl, plain_without tag name attrs)) (λ characters. refl) path tree plain
