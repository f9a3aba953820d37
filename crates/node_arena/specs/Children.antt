-- How the lists of children in entries change.
use Rattle.std.specs.Prelude.{◌≡◌, ◌≢◌, ℕ, ◌<◌, ◌≤◌, List, [], slice_get, Option, Some, None, IsSomeAnd, option_map, length, vec_capacity}
use Rattle.slab.specs.Slab.{Slab, get}
use Rattle.plain_types.specs.declared.node.Node.{Node}
use Rattle.node_arena.specs.declared.entry.Entry.{Entry}
use Rattle.node_arena.specs.Entries.{Links}

abbrev pub list_of : Option Links → List ℕ
list_of None = []
list_of (Some links) = links.children

-- the children that an entry lists
abbrev pub listed : (ℕ → Option Links) → ℕ → List ℕ
listed at key = list_of (at key)

-- no key is there twice
abbrev pub AreOnce : List ℕ → Type 0
AreOnce keys = (i j key : ℕ) → slice_get keys i ≡ Some key → slice_get keys j ≡ Some key → i ≡ j

-- how many children fit into the list of an entry
abbrev pub room_in : Slab Entry → ℕ → Option ℕ
room_in nodes key = option_map (λ (entry : Entry). vec_capacity entry.children) (get nodes key)

abbrev pub KeepsRooms : Slab Entry → Slab Entry → Type 0
KeepsRooms old new = (key : ℕ) → room_in new key ≡ room_in old key

-- one more child fits in, without memory
abbrev pub HasRoom : Slab Entry → ℕ → Type 0
HasRoom nodes key = IsSomeAnd (get nodes key) (λ (entry : Entry). length entry.children.items < vec_capacity entry.children)

abbrev pub with_place : ℕ → ℕ → Links → Links
with_place parent position links = record links { parent = Some parent; position = position }

abbrev pub with_list : List ℕ → Links → Links
with_list children links = record links { children = children }

-- an entry got this parent and position
pub record Places (old new : ℕ → Option Links) (key parent position : ℕ) : Type 0 where
  pub changed : new key ≡ option_map (with_place parent position) (old key)
  pub others : (other : ℕ) → other ≢ key → new other ≡ old other

abbrev pub with_node : Node → Links → Links
with_node node links = record links { node = node }

-- an entry got this node
pub record Relabels (old new : ℕ → Option Links) (key : ℕ) (node : Node) : Type 0 where
  pub changed : new key ≡ option_map (with_node node) (old key)
  pub others : (other : ℕ) → other ≢ key → new other ≡ old other

-- an entry got this list of children
pub record Lists (old new : ℕ → Option Links) (parent : ℕ) (children : List ℕ) : Type 0 where
  pub changed : new parent ≡ option_map (with_list children) (old parent)
  pub others : (other : ℕ) → other ≢ parent → new other ≡ old other

-- the children from this index on, and before that one, got their places
pub record Numbers (old new : ℕ → Option Links) (parent : ℕ) (children : List ℕ) (from upto : ℕ) : Type 0 where
  pub placed : (index child : ℕ) → from ≤ index → index < upto → slice_get children index ≡ Some child → new child ≡ option_map (with_place parent index) (old child)
  pub others : (key : ℕ) → ((index : ℕ) → from ≤ index → index < upto → slice_get children index ≢ Some key) → new key ≡ old key

-- an entry got this list of children, and those from this index on got their places
pub record Hangs (old new : ℕ → Option Links) (parent : ℕ) (children : List ℕ) (from : ℕ) : Type 0 where
  pub changed : new parent ≡ option_map (with_list children) (old parent)
  pub placed : (index child : ℕ) → from ≤ index → slice_get children index ≡ Some child → new child ≡ option_map (with_place parent index) (old child)
  pub others : (key : ℕ) → key ≢ parent → ((index : ℕ) → from ≤ index → slice_get children index ≢ Some key) → new key ≡ old key
