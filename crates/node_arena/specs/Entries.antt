-- How entries under keys stand for a keyed tree.
use Rattle.std.specs.Prelude.{◌≡◌, ◌≢◌, ℕ, zero, suc, ◌+◌, ◌≤◌, List, [], ◌∷◌, ◌++◌, length, Option, Some, None, option_map}
use Rattle.forest.specs.Forest.{Forest, Empty, Tree, size}
use Rattle.forest.specs.Keys.{Keyed, HasDistinctKeys}
use Rattle.forest.specs.Spots.{keyed, root_keys, parent_of, index_of, children_of, label_of}
use Rattle.slab.specs.Slab.{Slab, get, slab_len}
use Rattle.plain_types.specs.declared.node.Node.{Node}
use Rattle.node_arena.specs.Document.{IsKeyedDocument}
use Rattle.node_arena.specs.declared.entry.Entry.{Entry}

-- what an entry says, without the room of its list
pub record Links : Type 0 where
  pub parent : Option ℕ
  pub position : ℕ
  pub children : List ℕ
  pub node : Node

abbrev pub links_of : Entry → Links
links_of entry = record { parent = entry.parent; position = entry.position; children = entry.children.items; node = entry.node }

abbrev pub links_in : Slab Entry → ℕ → Option Links
links_in nodes key = option_map links_of (get nodes key)

-- each node of the forest has its entry, where the roots have this parent and the first this position
abbrev pub HasEntries : (ℕ → Option Links) → Option ℕ → ℕ → Forest (Keyed Node) → Type 0
HasEntries at parent position Empty = Unit {0}
HasEntries at parent position (Tree node children after) =
    (at node.key ≡ Some (record { parent = parent; position = position; children = root_keys children; node = node.label }))
    × HasEntries at (Some node.key) 0 children × HasEntries at parent (position + 1) after

-- the forest of these roots, of at most so many nodes
abbrev pub grown : ℕ → (ℕ → Option Links) → List ℕ → Forest (Keyed Node)
grown zero at keys = Empty
grown (suc most) at [] = Empty
grown (suc most) at (key ∷ keys) = elim (at key) [
  | None ↦ Empty
  | Some links ↦ Tree (keyed key links.node) (grown most at links.children) (grown most at keys)
]

-- the tree that the entries hold
unfoldable pub tree_in : Slab Entry → ℕ → Forest (Keyed Node)
tree_in nodes root = grown (slab_len nodes) (links_in nodes) (root ∷ [])

-- the entries hold this tree
pub record Holds (nodes : Slab Entry) (root : ℕ) (tree : Forest (Keyed Node)) : Type 0 where
  pub entries : HasEntries (links_in nodes) None 0 tree
  pub roots : root_keys tree ≡ root ∷ []
  pub distinct : HasDistinctKeys tree
  pub small : size tree ≤ slab_len nodes

pub record IsArena (nodes : Slab Entry) (root : ℕ) : Type 0 where
  pub holds : Holds nodes root (tree_in nodes root)
  pub document : IsKeyedDocument (tree_in nodes root)

-- what the entry of a node says of it
pub record IsEntryOf (tree : Forest (Keyed Node)) (key : ℕ) (entry : Entry) : Type 0 where
  pub parent : entry.parent ≡ parent_of tree key
  pub position : entry.position ≡ index_of tree key
  pub children : entry.children.items ≡ root_keys (children_of tree key)
  pub node : Some entry.node ≡ label_of tree key

-- a key was put at the end of a node's children
pub record AddsChild (old new : ℕ → Option Links) (parent child : ℕ) : Type 0 where
  pub changed : (links : Links) → old parent ≡ Some links → new parent ≡ Some (record links { children = links.children ++ child ∷ [] })
  pub others : (other : ℕ) → other ≢ parent → new other ≡ old other

-- a new node was put behind the children of a node
pub record Appends (old new : ℕ → Option Links) (parent : ℕ) (node : Node) (key : ℕ) : Type 0 where
  pub fresh : old key ≡ None
  pub added : (links : Links) → old parent ≡ Some links → new key ≡ Some (record { parent = Some parent; position = length links.children; children = []; node = node })
  pub changed : (links : Links) → old parent ≡ Some links → new parent ≡ Some (record links { children = links.children ++ key ∷ [] })
  pub others : (other : ℕ) → other ≢ key → other ≢ parent → new other ≡ old other
