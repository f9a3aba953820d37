-- One node more of a merge is turned: its stops are those of the merge, and those on the way to the node (our own).
use Rattle.std.specs.Prelude.{◌≡◌, ◌⊎◌, ℕ, suc, nat_lt, ◌==◌, Bool, true, false, ◌||◌, ◌&&◌, not, List, [], ◌∷◌, ◌++◌, if◌then◌else◌}
use Rattle.std.proofs.Common.{inl, inr}
use Rattle.std.specs.Option.{option_map_or}
use Rattle.forest.specs.Keys.{Keyed}
use Rattle.merged_walk.specs.declared.stop.Stop.{Stop}
use Rattle.merged_walk.specs.Merges.{Merge, End, Kept, Turned, Gone, Come}
use Rattle.merged_walk.specs.Stops.{is_inside}
use Rattle.merged_walk.specs.EditStops.{stop_inside}

-- A way is the keys of a node and of those above it, from the root. `earlier` tells which of two siblings comes first.
module _ (earlier : ℕ → ℕ → Bool) where
  -- a stop with this link comes before the stop into the node of this key
  abbrev pub is_link_before : ℕ → Bool → ℕ → Bool
  is_link_before key enters link = earlier link key || ((link == key) && not enters)

  -- so do those deeper than the node, since they are in siblings before it
  abbrev pub is_stop_before : ℕ → ℕ → Stop → Bool
  is_stop_before depth key stop =
      nat_lt depth stop.depth || ((stop.depth == depth) && option_map_or (is_link_before key (is_inside stop.way)) stop.link false)

  -- it is the stop into the node
  abbrev pub is_stop_into : ℕ → ℕ → Stop → Bool
  is_stop_into depth key stop = (stop.depth == depth) && option_map_or (λ link. (link == key) && is_inside stop.way) stop.link false

  -- the stops before the one into the node, and those behind it
  abbrev pub stops_before : ℕ → ℕ → List Stop → List Stop
  stops_before depth key [] = []
  stops_before depth key (stop ∷ stops) = if is_stop_before depth key stop then stop ∷ stops_before depth key stops else []

  abbrev pub stops_after : ℕ → ℕ → List Stop → List Stop
  stops_after depth key [] = []
  stops_after depth key (stop ∷ stops) =
      if is_stop_before depth key stop then stops_after depth key stops
      else (if is_stop_into depth key stop then stops else stop ∷ stops)

  -- stops, and those on a way whose first node is at this depth; what stands there already isn't put in again
  abbrev pub with_way : ℕ → List ℕ → List Stop → List Stop
  with_way depth [] stops = stops
  with_way depth (key ∷ way) stops = stops_before depth key stops ++ (stop_inside depth key ∷ with_way (suc depth) way (stops_after depth key stops))

  -- a sibling of this key stands behind the node, and isn't the node
  abbrev pub IsLater : ℕ → ℕ → Type 0
  IsLater key sibling = (earlier sibling key ≡ false) × ((sibling == key) ≡ false)

  -- the new nodes of what is left of a level stand behind the node
  module _ {L : Type 0} where
    abbrev pub AreLater : ℕ → Merge L → Type 0
    AreLater key End = Unit {0}
    AreLater key (Kept node children after) = IsLater key node.key × AreLater key after
    AreLater key (Turned was node children after) = IsLater key node.key × AreLater key after
    AreLater key (Gone node children after) = AreLater key after
    AreLater key (Come node children after) = IsLater key node.key × AreLater key after

-- the one where a way ends, the other where it goes on
abbrev pub at_end : {A : Type 0} → List ℕ → A → A → A
at_end [] one other = one
at_end (key ∷ way) one other = other

module _ {L : Type 0} (is_element : L → Bool) (earlier : ℕ → ℕ → Bool) where
  -- a way leads through elements that stay, and the order of siblings is told right
  abbrev pub Reaches : List ℕ → Merge L → Type 0
  Reaches [] merge = Unit {0}
  Reaches (key ∷ way) End = ⊥
  Reaches (key ∷ way) (Kept node children after) =
      ((node.key ≡ key) × (is_element node.label ≡ true) × AreLater earlier key after × Reaches way children)
      ⊎ ((earlier node.key key ≡ true) × Reaches (key ∷ way) after)
  Reaches (key ∷ way) (Turned was node children after) =
      ((node.key ≡ key) × (is_element was.label ≡ true) × (was.key ≡ key) × Reaches way children)
      ⊎ ((earlier node.key key ≡ true) × Reaches (key ∷ way) after)
  Reaches (key ∷ way) (Gone node children after) = Reaches (key ∷ way) after
  Reaches (key ∷ way) (Come node children after) = (earlier node.key key ≡ true) × Reaches (key ∷ way) after

  -- the merge where the node at the end of a way has another label
  abbrev pub turn_node : (Keyed L → Keyed L) → (way : List ℕ) (merge : Merge L) → Reaches way merge → Merge L
  turn_node change [] merge reaches = merge
  turn_node change (key ∷ way) End reaches = End
  turn_node change (key ∷ way) (Kept node children after) (inl here) =
      at_end way (Turned node (change node) children after) (Kept node (turn_node change way children here.3) after)
  turn_node change (key ∷ way) (Kept node children after) (inr later) = Kept node children (turn_node change (key ∷ way) after later.1)
  turn_node change (key ∷ way) (Turned was node children after) (inl here) =
      at_end way (Turned was (change node) children after) (Turned was node (turn_node change way children here.3) after)
  turn_node change (key ∷ way) (Turned was node children after) (inr later) = Turned was node children (turn_node change (key ∷ way) after later.1)
  turn_node change (key ∷ way) (Gone node children after) reaches = Gone node children (turn_node change (key ∷ way) after reaches)
  turn_node change (key ∷ way) (Come node children after) reaches = Come node children (turn_node change (key ∷ way) after reaches.1)
