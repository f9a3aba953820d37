-- What a walk over a merge asks of its levels (our own).
use Rattle.std.specs.Prelude.{◌≡◌, Bool, true, false}
use Rattle.forest.specs.Forest.{Forest, Empty, Tree}
use Rattle.forest.specs.Keys.{Keyed}
use Rattle.merged_walk.specs.Merges.{Merge, End, Kept, Turned, Gone, Come, has_place}

module _ {L : Type 0} (is_element : L → Bool) where
  -- texts have no children
  abbrev pub AreLeaves : Forest (Keyed L) → Type 0
  AreLeaves Empty = Unit {0}
  AreLeaves (Tree node children after) = (is_element node.label ≡ false → children ≡ Empty) × AreLeaves children × AreLeaves after

  -- texts of the new forest have no children, and what is turned is an element before and now, under the same key
  abbrev pub HasLeaves : Merge L → Type 0
  HasLeaves End = Unit {0}
  HasLeaves (Kept node children after) = (is_element node.label ≡ false → children ≡ End) × HasLeaves children × HasLeaves after
  HasLeaves (Turned was node children after) =
      (is_element was.label ≡ true) × (is_element node.label ≡ true) × (was.key ≡ node.key) × HasLeaves children × HasLeaves after
  HasLeaves (Gone node children after) = HasLeaves after
  HasLeaves (Come node children after) = (is_element node.label ≡ false → children ≡ Empty) × AreLeaves children × HasLeaves after

-- each root that is kept has a place under it, so there is none that a walk may skip
abbrev pub AreAllLed : {L : Type 0} → Merge L → Type 0
AreAllLed End = Unit {0}
AreAllLed (Kept node children after) = (has_place children ≡ true) × AreAllLed after
AreAllLed (Turned was node children after) = AreAllLed after
AreAllLed (Gone node children after) = AreAllLed after
AreAllLed (Come node children after) = AreAllLed after
