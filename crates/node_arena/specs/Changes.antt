-- What a prepared change of an arena's nodes makes of its tree, and when it can be done.
use Rattle.std.specs.Prelude.{◌≡◌, ◌≢◌, ◌<◌, ◌≤◌, ◌==◌, ℕ, List, [], ◌∷◌, count_by, Option, Some, None, is_some, true, IsSomeAnd, IsTrue}
use Rattle.forest.specs.Forest.{Forest, Empty, Tree}
use Rattle.forest.specs.Keys.{Keyed, times, without_keys}
use Rattle.forest.specs.Spots.{root_keys, IsLive, label_of, parent_of, index_of, children_of, child_count_of, on_link}
use Rattle.forest.specs.Changes.{put_children, put_label}
use Rattle.slab.specs.Slab.{get}
use Rattle.plain_types.specs.Building.{IsSoundNode}
use Rattle.plain_types.specs.Tree.{AreSound}
use Rattle.plain_types.specs.declared.edit.Edit.{Edit}
use Rattle.plain_types.specs.declared.node.Node.{Node}
use Rattle.node_arena.specs.declared.change.Change.{Change}
use Rattle.node_arena.specs.declared.change.Change.TheVariants.{Nothing, Relabel, PutIn, TakeOut, Move}
use Rattle.node_arena.specs.declared.change.ChildPlace.{ChildPlace}
use Rattle.node_arena.specs.AtPaths.{from_position, without_first, with_tree}
use Rattle.node_arena.specs.Children.{HasRoom}
use Rattle.node_arena.specs.Copies.{is_element}
use Rattle.node_arena.specs.Document.{Document}
use Rattle.node_arena.specs.Edits.{HasKeysApart, IsEdited}
use Rattle.node_arena.specs.Entries.{Links, links_in, HasEntries, tree_in}

-- the tree where the first tree of a forest is the child at a place
abbrev pub hung : ChildPlace → Forest (Keyed Node) → Forest (Keyed Node) → Forest (Keyed Node)
hung place trees tree = put_children place.parent (with_tree place.index trees (children_of tree place.parent)) tree

-- the tree without the child at a place
abbrev pub cut : ChildPlace → Forest (Keyed Node) → Forest (Keyed Node)
cut place tree = put_children place.parent (from_position without_first place.index (children_of tree place.parent)) tree

-- the tree of a node that is kept aside: made for an edit, or taken out by one
abbrev pub aside : Document → ℕ → Forest (Keyed Node)
aside document key = tree_in document.entries key

-- the tree once the change is done
abbrev pub changed : Document → Change → Forest (Keyed Node)
changed document Nothing = document.tree
changed document (Relabel key node) = put_label key node document.tree
changed document (PutIn key keys place) = hung place (aside document key) document.tree
changed document (TakeOut key keys place) = cut place document.tree
changed document (Move key from to) = hung to (on_link document.tree (Some key)) (cut from document.tree)

-- When a change can be done without memory.

abbrev pub IsElementKey : Forest (Keyed Node) → ℕ → Type 0
IsElementKey tree key = IsSomeAnd (label_of tree key) (λ (node : Node). IsTrue (is_element node))

-- a child may come to this place
pub record IsFreePlace (tree : Forest (Keyed Node)) (place : ChildPlace) : Type 0 where
  pub element : IsElementKey tree place.parent
  pub within : place.index ≤ child_count_of tree place.parent

-- the node is the child at this place
pub record HasPlace (tree : Forest (Keyed Node)) (key : ℕ) (place : ChildPlace) : Type 0 where
  pub live : IsLive tree key
  pub parent : parent_of tree key ≡ Some place.parent
  pub index : index_of tree key ≡ place.index
  pub element : IsElementKey tree place.parent

-- the entries of a forest's nodes, whatever the parent and the position of its roots
abbrev pub HasBodies : (ℕ → Option Links) → Forest (Keyed Node) → Type 0
HasBodies at Empty = Unit {0}
HasBodies at (Tree node children after) =
    ((parent : Option ℕ) × (position : ℕ) × (at node.key ≡ Some (record { parent = parent; position = position; children = root_keys children; node = node.label })))
    × HasEntries at (Some node.key) 0 children × HasBodies at after

-- the keys of a forest's nodes, each once
abbrev pub AreKeysOf : List ℕ → Forest (Keyed Node) → Type 0
AreKeysOf keys forest = (key : ℕ) → count_by (λ other. other == key) keys ≡ times key forest

-- a node with all under it, and nothing after it
abbrev pub alone : {L : Type 0} → Forest L → Forest L
alone Empty = Empty
alone (Tree node children after) = Tree node children Empty

-- the tree of a node is kept aside: its entries are there, and no node of the document has its keys
pub record IsAside (document : Document) (key : ℕ) : Type 0 where
  pub bodies : HasBodies (links_in document.entries) (aside document key)
  pub root : root_keys (aside document key) ≡ key ∷ []
  pub apart : HasKeysApart (aside document key) document.tree
  pub sound : AreSound (without_keys (aside document key))

-- What the two steps of changes do.

-- the lists of other nodes have the room that they had
abbrev pub KeepsRoomsBut : ℕ → Document → Document → Type 0
KeepsRoomsBut parent old new = (key : ℕ) → key ≢ parent → HasRoom old.entries key → HasRoom new.entries key

-- the same keys have entries
abbrev pub KeepsEntries : Document → Document → Type 0
KeepsEntries old new = (key : ℕ) → is_some (get new.entries key) ≡ is_some (get old.entries key)

-- a child is kept aside
pub record IsTakenOut (old new : Document) (key : ℕ) (place : ChildPlace) : Type 0 where
  pub tree : new.tree ≡ cut place old.tree
  pub kept : IsAside new key
  pub nodes : aside new key ≡ alone (on_link old.tree (Some key))
  pub free : IsFreePlace new.tree place
  pub room : HasRoom new.entries place.parent
  pub rooms : KeepsRoomsBut place.parent old new
  pub back : hung place (aside new key) new.tree ≡ old.tree
  pub entries : KeepsEntries old new

-- a node that was kept aside is a child
pub record IsPutIn (old new : Document) (key : ℕ) (place : ChildPlace) : Type 0 where
  pub tree : new.tree ≡ hung place (aside old key) old.tree
  pub stands : HasPlace new.tree key place
  pub nodes : alone (on_link new.tree (Some key)) ≡ aside old key
  pub rooms : KeepsRoomsBut place.parent old new
  pub back : cut place new.tree ≡ old.tree
  pub entries : KeepsEntries old new

-- Which changes can be done.

pub record CanRelabel (document : Document) (key : ℕ) (node : Node) : Type 0 where
  pub old : IsElementKey document.tree key
  pub new : IsTrue (is_element node)
  pub sound : IsSoundNode node

-- a node is another, and was the one that is given back
pub record IsRelabelled (old new : Document) (key : ℕ) (node was : Node) : Type 0 where
  pub tree : new.tree ≡ put_label key node old.tree
  pub can : CanRelabel new key was
  pub back : put_label key was new.tree ≡ old.tree
  pub entries : KeepsEntries old new

pub record CanPutIn (document : Document) (key : ℕ) (keys : List ℕ) (place : ChildPlace) : Type 0 where
  pub kept : IsAside document key
  pub listed : AreKeysOf keys (aside document key)
  pub free : IsFreePlace document.tree place
  pub room : HasRoom document.entries place.parent

pub record CanTakeOut (document : Document) (key : ℕ) (keys : List ℕ) (place : ChildPlace) : Type 0 where
  pub stands : HasPlace document.tree key place
  pub listed : AreKeysOf keys (alone (on_link document.tree (Some key)))

pub record CanMove (document : Document) (key : ℕ) (from to : ChildPlace) : Type 0 where
  pub stands : HasPlace document.tree key from
  pub free : IsFreePlace (cut from document.tree) to
  pub room : to.parent ≢ from.parent → HasRoom document.entries to.parent

abbrev pub CanChange : Document → Change → Type 0
CanChange document Nothing = Unit {0}
CanChange document (Relabel key node) = CanRelabel document key node
CanChange document (PutIn key keys place) = CanPutIn document key keys.items place
CanChange document (TakeOut key keys place) = CanTakeOut document key keys.items place
CanChange document (Move key from to) = CanMove document key from to

-- a change was done, and the other one undoes it
pub record IsChanged (old new : Document) (change back : Change) : Type 0 where
  pub tree : new.tree ≡ changed old change
  pub can : CanChange new back
  pub before : changed new back ≡ old.tree
  pub entries : KeepsEntries old new

-- the nodes that a change would put in
abbrev pub IsKept : Document → Change → ℕ → Type 0
IsKept document (PutIn top keys place) key = 0 < times key (aside document top)
IsKept document change key = ⊥

-- they are given up: their keys are free again
pub record GivesUp (old new : Document) (change : Change) : Type 0 where
  pub tree : new.tree ≡ old.tree
  pub freed : (key : ℕ) → IsKept old change key → get new.entries key ≡ None
  pub others : (key : ℕ) → (IsKept old change key → ⊥) → get new.entries key ≡ get old.entries key

-- the change can be done, and does what the edit does to the old tree; the nodes that it puts in have keys
-- that weren't used and are now, and no other key is used more or less
pub record Prepares (edit : Edit) (old new : Document) (change : Change) : Type 0 where
  pub can : CanChange new change
  pub edits : IsEdited edit old.tree (changed new change)
  pub fresh : (key : ℕ) → IsKept new change key → get old.entries key ≡ None
  pub reserved : (key : ℕ) → IsKept new change key → is_some (get new.entries key) ≡ true
  pub others : (key : ℕ) → (IsKept new change key → ⊥) → is_some (get new.entries key) ≡ is_some (get old.entries key)

-- a tree is kept aside, under keys that weren't used
pub record KeepsAside (old new : Document) (tree : Forest Node) (keys : List ℕ) (key : ℕ) : Type 0 where
  pub kept : IsAside new key
  pub listed : AreKeysOf keys (aside new key)
  pub tree_is : without_keys (aside new key) ≡ tree
  pub fresh : (other : ℕ) → 0 < times other (aside new key) → get old.entries other ≡ None
  pub reserved : (other : ℕ) → 0 < times other (aside new key) → is_some (get new.entries other) ≡ true
  pub others : (other : ℕ) → times other (aside new key) ≡ 0 → get new.entries other ≡ get old.entries other
