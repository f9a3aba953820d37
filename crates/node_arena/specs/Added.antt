-- Nodes that get entries.
use Rattle.std.specs.Prelude.{◌≡◌, ℕ, List, None, Contains}
use Rattle.forest.specs.Forest.{Forest}
use Rattle.forest.specs.Keys.{Keyed, without_keys}
use Rattle.slab.specs.Slab.{Slab, get}
use Rattle.plain_types.specs.Tree.{IsTree}
use Rattle.plain_types.specs.declared.node.Node.{Node}
use Rattle.node_arena.specs.declared.entry.Entry.{Entry}
use Rattle.node_arena.specs.Changes.{AreKeysOf}
use Rattle.node_arena.specs.Entries.{Holds}

-- entries were added under these keys, which had none, and no others changed
pub record AddsOnly (old new : Slab Entry) (keys : List ℕ) : Type 0 where
  pub fresh : (key : ℕ) → Contains keys key → get old key ≡ None
  pub others : (key : ℕ) → (Contains keys key → ⊥) → get new key ≡ get old key

-- the nodes of a tree got entries under these keys, the root's among them
pub record IsAdded (old new : Slab Entry) (tree : Forest Node) (keys : List ℕ) (root : ℕ) : Type 0 where
  pub added : Forest (Keyed Node)
  pub holds : Holds new root added
  pub tree_is : without_keys added ≡ tree
  pub sound : IsTree tree
  pub listed : AreKeysOf keys added
  pub only : AddsOnly old new keys
