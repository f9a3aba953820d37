-- Two keyed forests, an old and a new one, read off one tree (our own). They share their nodes but for some places.
use Rattle.std.specs.Prelude.{Bool, true, false, ◌||◌, if◌then◌else◌}
use Rattle.forest.specs.Forest.{Forest, Empty, Tree}
use Rattle.forest.specs.Keys.{Keyed}

-- The end of a level, or its first node with what is under it and after it. The node is kept; or it is turned, that is
-- kept under another label; or it is gone with all under it, and only the old forest has it; or it comes with all under
-- it, and only the new forest has it.
pub data Merge (L : Type 0) : Type 0 where
  End : Merge L
  Kept : (node : Keyed L) (children after : Merge L) → Merge L
  Turned : (was node : Keyed L) (children after : Merge L) → Merge L
  Gone : (node : Keyed L) (children : Forest (Keyed L)) (after : Merge L) → Merge L
  Come : (node : Keyed L) (children : Forest (Keyed L)) (after : Merge L) → Merge L

module _ {L : Type 0} where
  -- the old forest
  abbrev pub old_of : Merge L → Forest (Keyed L)
  old_of End = Empty
  old_of (Kept node children after) = Tree node (old_of children) (old_of after)
  old_of (Turned was node children after) = Tree was (old_of children) (old_of after)
  old_of (Gone node children after) = Tree node children (old_of after)
  old_of (Come node children after) = old_of after

  -- the new forest
  abbrev pub new_of : Merge L → Forest (Keyed L)
  new_of End = Empty
  new_of (Kept node children after) = Tree node (new_of children) (new_of after)
  new_of (Turned was node children after) = Tree node (new_of children) (new_of after)
  new_of (Gone node children after) = new_of after
  new_of (Come node children after) = Tree node children (new_of after)

  -- all trees come
  abbrev pub all_come : Forest (Keyed L) → Merge L
  all_come Empty = End
  all_come (Tree node children after) = Come node children (all_come after)

  -- all nodes are kept
  abbrev pub all_kept : Forest (Keyed L) → Merge L
  all_kept Empty = End
  all_kept (Tree node children after) = Kept node (all_kept children) (all_kept after)

  -- a node on the level or under it isn't kept
  abbrev pub has_place : Merge L → Bool
  has_place End = false
  has_place (Kept node children after) = has_place children || has_place after
  has_place (Turned was node children after) = true
  has_place (Gone node children after) = true
  has_place (Come node children after) = true

  -- the level from the first node on that isn't kept, or has such a node under it
  abbrev pub from_place : Merge L → Merge L
  from_place End = End
  from_place (Kept node children after) = if has_place children then Kept node children after else from_place after
  from_place (Turned was node children after) = Turned was node children after
  from_place (Gone node children after) = Gone node children after
  from_place (Come node children after) = Come node children after
