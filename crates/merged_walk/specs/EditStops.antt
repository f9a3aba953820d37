-- The stops of an edit, told by paths in the tree before it (our own).
use Rattle.std.specs.Prelude.{◌≡◌, ◌==◌, ◌≤◌, ℕ, suc, nat_eq, nat_lt, Bool, true, false, ◌&&◌, if◌then◌else◌, List, [], ◌∷◌, ◌++◌, length, Some}
use Rattle.std.specs.List.{AllByRecursion}
use Rattle.std.specs.Option.{option_eq}
use Rattle.forest.specs.Forest.{Forest, Empty, Tree}
use Rattle.forest.specs.Keys.{Keyed}
use Rattle.forest.specs.Paths.{on_path, trees_from}
use Rattle.forest.specs.Spots.{first_key}
use Rattle.node_arena.specs.AtPaths.{child_count_at}
use Rattle.merged_walk.specs.declared.stop.Stop.{Stop}
use Rattle.merged_walk.specs.declared.stop.Way.TheVariants.{Past, Inside, Anew}
use Rattle.merged_walk.specs.Stops.{first_element, is_inside}

-- the stop into a node
abbrev pub stop_inside : ℕ → ℕ → Stop
stop_inside depth key = record { depth = depth; link = Some key; way = Inside; from = Some key }

module _ {L : Type 0} where
  -- the nodes above the one at a path, from the root
  abbrev pub on_way : List ℕ → Forest (Keyed L) → List (Keyed L)
  on_way [] trees = []
  on_way (position ∷ path) Empty = []
  on_way (position ∷ path) (Tree node children after) = node ∷ on_way path (trees_from position children)

  -- a path names a node
  abbrev pub NamesNode : List ℕ → Forest (Keyed L) → Type 0
  NamesNode [] Empty = ⊥
  NamesNode [] (Tree node children after) = Unit {0}
  NamesNode (position ∷ path) Empty = ⊥
  NamesNode (position ∷ path) (Tree node children after) = NamesNode path (trees_from position children)

  -- a tree may come as the child of this index of the node at a path
  abbrev pub HasRoom : List ℕ → ℕ → Forest (Keyed L) → Type 0
  HasRoom path index trees = NamesNode path trees × (index ≤ child_count_at path trees)

  -- the stops into nodes, each a child of the one before it, where the first is at this depth
  abbrev pub stops_into : ℕ → List (Keyed L) → List Stop
  stops_into depth [] = []
  stops_into depth (node ∷ nodes) = stop_inside depth node.key ∷ stops_into (suc depth) nodes

  module _ (is_element : L → Bool) where
    -- the nodes above the one at a path are elements
    abbrev pub IsUnderElements : List ℕ → Forest (Keyed L) → Type 0
    IsUnderElements path trees = AllByRecursion (λ (node : Keyed L). is_element node.label ≡ true) (on_way path trees)

    -- the stop before trees of which the first goes
    abbrev pub gone_stop : ℕ → Forest (Keyed L) → List Stop
    gone_stop depth Empty = []
    gone_stop depth (Tree node children after) =
        record { depth = depth; link = first_key after; way = Past; from = first_element is_element (Tree node children after) } ∷ []

    -- the stop before trees before which one comes whose root has this key
    abbrev pub come_stop : ℕ → ℕ → Forest (Keyed L) → Stop
    come_stop depth key trees = record { depth = depth; link = Some key; way = Anew; from = first_element is_element trees }

    -- the stops before trees of which the first goes and comes, where its root keeps its key
    abbrev pub changed_stops : ℕ → Forest (Keyed L) → List Stop
    changed_stops depth Empty = []
    changed_stops depth (Tree node children after) =
        record { depth = depth; link = Some node.key; way = Past; from = first_element is_element (Tree node children after) }
        ∷ (come_stop depth node.key after ∷ [])

    -- The stops of a place at a path: into the nodes above it, and its own.

    abbrev pub removal_stops : List ℕ → Forest (Keyed L) → List Stop
    removal_stops path tree = stops_into 0 (on_way path tree) ++ gone_stop (length (on_way path tree)) (on_path path tree)

    abbrev pub relabelling_stops : List ℕ → Forest (Keyed L) → List Stop
    relabelling_stops path tree = stops_into 0 (on_way path tree) ++ changed_stops (length (on_way path tree)) (on_path path tree)

    abbrev pub insertion_stops : List ℕ → ℕ → Forest (Keyed L) → List Stop
    insertion_stops path key tree = stops_into 0 (on_way path tree) ++ (come_stop (length (on_way path tree)) key (on_path path tree) ∷ [])

-- The stops of a move: those of its two places, of which common first ones stand once.

abbrev pub is_common : Stop → Stop → Bool
is_common one other = is_inside one.way && (is_inside other.way && option_eq nat_eq one.link other.link)

-- two lists of stops in tree order, where the rest of the first comes before that of the second or behind it
abbrev pub joined : Bool → List Stop → List Stop → List Stop
joined is_first [] others = others
joined is_first (stop ∷ stops) [] = stop ∷ stops
joined is_first (stop ∷ stops) (other ∷ others) =
    if is_common stop other then stop ∷ joined is_first stops others
    else (if is_first then (stop ∷ stops) ++ (other ∷ others) else (other ∷ others) ++ (stop ∷ stops))

-- the index at which a moved node comes, counted among its siblings before the move
abbrev pub old_index : List ℕ → List ℕ → ℕ → ℕ
old_index [] parent index = index
old_index (gone ∷ []) [] index = if nat_lt gone index then suc index else index
old_index (gone ∷ []) (position ∷ path) index = index
old_index (step ∷ (next ∷ above)) [] index = index
old_index (step ∷ (next ∷ above)) (position ∷ path) index = if step == position then old_index (next ∷ above) path index else index

-- a path leads to a node before the place that another names, and not to that place or into it
abbrev pub is_before : List ℕ → List ℕ → Bool
is_before [] place = false
is_before (step ∷ path) [] = false
is_before (step ∷ path) (position ∷ place) = if nat_lt step position then true else (if step == position then is_before path place else false)

abbrev pub moving_stops : {L : Type 0} → (L → Bool) → List ℕ → List ℕ → ℕ → ℕ → Forest (Keyed L) → List Stop
moving_stops is_element from parent index key tree =
    let place : List ℕ = parent ++ old_index from parent index ∷ [] in
    joined (is_before from place) (removal_stops is_element from tree) (insertion_stops is_element place key tree)
