-- What contracts see of prepared and of committed edits.
use Rattle.std.specs.Prelude.{◌≡◌, ℕ, Bool, true, false, ◌||◌, is_some}
use Rattle.forest.specs.Forest.{Forest}
use Rattle.forest.specs.Keys.{Keyed}
use Rattle.forest.specs.Spots.{IsLive, spot_of}
use Rattle.slab.specs.Slab.{get}
use Rattle.plain_types.specs.declared.node.Node.{Node}
use Rattle.node_arena.specs.declared.prepared.Prepared.{Prepared}
use Rattle.node_arena.specs.declared.reversal.Reversal.{Reversal}
use Rattle.node_arena.specs.Changes.{changed, CanChange}
use Rattle.node_arena.specs.Document.{Document}

-- the arena is as it was when this edit was prepared
unfoldable pub IsReady : Document → Prepared → Type 0
IsReady document prepared = CanChange document prepared.change

-- the tree to which `commit` leads
unfoldable pub tree_after : Document → Prepared → Forest (Keyed Node)
tree_after document prepared = changed document prepared.change

-- the reversal is that of the arena's last commit
unfoldable pub IsReversal : Document → Reversal → Type 0
IsReversal document reversal = CanChange document reversal.change

-- the tree to which `revert` leads
unfoldable pub tree_before : Document → Reversal → Forest (Keyed Node)
tree_before document reversal = changed document reversal.change

-- a key is used: a node has it, or one that an edit took out and that isn't settled, or one that was made
-- for an edit
unfoldable pub is_used : Document → ℕ → Bool
is_used document key = is_some (get document.entries key)

-- the first tree has a node of this key, and the second has none
abbrev pub IsOnlyIn : Forest (Keyed Node) → Forest (Keyed Node) → ℕ → Type 0
IsOnlyIn before after key = IsLive before key × (IsLive after key → ⊥)

-- the keys of the nodes that are only in the second tree are used, and no others are used more or less
pub record Reserves (before after : Forest (Keyed Node)) (old new : Document) : Type 0 where
  pub reserved : (key : ℕ) → IsOnlyIn after before key → is_used new key ≡ true
  pub others : (key : ℕ) → (IsOnlyIn after before key → ⊥) → is_used new key ≡ is_used old key

-- the keys of the nodes that are only in the first tree are free again, and no others
pub record FreesGone (before after : Forest (Keyed Node)) (old new : Document) : Type 0 where
  pub freed : (key : ℕ) → IsOnlyIn before after key → is_used new key ≡ false
  pub others : (key : ℕ) → (IsOnlyIn before after key → ⊥) → is_used new key ≡ is_used old key

-- a node of the tree has this key
abbrev pub is_live : Forest (Keyed Node) → ℕ → Bool
is_live tree key = is_some (spot_of tree key)

-- no edit is under way: exactly the keys of the document's nodes are used
abbrev pub IsSettled : Document → Type 0
IsSettled document = (key : ℕ) → is_used document key ≡ is_live document.tree key

-- an edit is committed, and neither settled nor taken back: used are the keys of the document's nodes, and those of
-- the nodes that it had before, and no others
abbrev pub IsCommitted : Document → Reversal → Type 0
IsCommitted document reversal = (key : ℕ) → is_used document key ≡ (is_live document.tree key || is_live (tree_before document reversal) key)
