-- Where a walk over two merged forests has to go (our own): to each place, and into each node that has one under it.
use Rattle.std.specs.Prelude.{◌==◌, ◌+◌, ℕ, suc, nat_eq, Bool, true, false, ◌&&◌, if◌then◌else◌, List, [], ◌∷◌, ◌++◌, Option, Some, None}
use Rattle.std.specs.Option.{option_eq}
use Rattle.forest.specs.Forest.{Forest, Empty, Tree}
use Rattle.forest.specs.Keys.{Keyed}
use Rattle.forest.specs.Spots.{first_key}
use Rattle.merged_walk.specs.declared.stop.Stop.{Stop}
use Rattle.merged_walk.specs.declared.stop.Way.{Way}
use Rattle.merged_walk.specs.declared.stop.Way.TheVariants.{Past, Inside, Anew}
use Rattle.merged_walk.specs.Merges.{Merge, End, Kept, Turned, Gone, Come, old_of, new_of, has_place}

abbrev pub is_inside : Way → Bool
is_inside Past = false
is_inside Inside = true
is_inside Anew = false

-- how many of these stops are at trees that go or come
abbrev pub places_ahead : List Stop → ℕ
places_ahead [] = 0
places_ahead (stop ∷ stops) = (if is_inside stop.way then 0 else 1) + places_ahead stops

-- the next stop is at this depth and this link
abbrev pub is_at : List Stop → ℕ → Option ℕ → Bool
is_at [] depth link = false
is_at (stop ∷ stops) depth link = stop.depth == depth && option_eq nat_eq stop.link link

-- the next stop is at this depth
abbrev pub is_ahead : List Stop → ℕ → Bool
is_ahead [] depth = false
is_ahead (stop ∷ stops) depth = stop.depth == depth

module _ {L : Type 0} (is_element : L → Bool) where
  -- the first root that is an element
  abbrev pub first_element : Forest (Keyed L) → Option ℕ
  first_element Empty = None
  first_element (Tree node children after) = if is_element node.label then Some node.key else first_element after

  -- the stop at the front of what is left of a level
  abbrev pub stop_at : ℕ → Way → Merge L → Stop
  stop_at depth way level = record { depth = depth; link = first_key (new_of level); way = way; from = first_element (old_of level) }

  -- the stops of a level at this depth and of all under it, in tree order
  abbrev pub stops_of : ℕ → Merge L → List Stop
  stops_of depth End = []
  stops_of depth (Kept node children after) =
      (if has_place children then stop_at depth Inside (Kept node children after) ∷ stops_of (suc depth) children else []) ++ stops_of depth after
  stops_of depth (Turned was node children after) =
      stop_at depth Inside (Turned was node children after) ∷ (stops_of (suc depth) children ++ stops_of depth after)
  stops_of depth (Gone node children after) = stop_at depth Past (Gone node children after) ∷ stops_of depth after
  stops_of depth (Come node children after) = stop_at depth Anew (Come node children after) ∷ stops_of depth after
