-- What is known of a walk over two merged forests, of whose old one all is held (our own).
use Rattle.std.specs.Prelude.{◌≡◌, ◌⊎◌, ◌<◌, ◌≤◌, ◌+◌, ◌*◌, ℕ, Bool, true, false, List, [], ◌∷◌, ◌++◌, length, Option, if◌then◌else◌}
use Rattle.forest.specs.Forest.{size}
use Rattle.forest.specs.Keys.{Keyed, HasDistinctKeys}
use Rattle.merged_walk.specs.declared.stop.Stop.{Stop}
use Rattle.merged_walk.specs.Merges.{Merge, End, Kept, Turned, Gone, Come, old_of, new_of, all_come, has_place, from_place}
use Rattle.merged_walk.specs.Stops.{places_ahead, stops_of}
use Rattle.merged_walk.specs.Evaluators.{Asks, Evaluator, told, past_all, told_all, AllFit}
use Rattle.merged_walk.specs.Entries.{AreAmong, Covers, Holds}
use Rattle.merged_walk.specs.Counts.{anew_count, come_count, set_aside}

-- A node that a walk has entered and not left yet: the node now and before, what it is handed and was handed, whether
-- it is in a tree that comes, and what is after it.
pub record Open (L H : Type 0) : Type 0 where
  pub node : Keyed L
  pub was_node : Keyed L
  pub handed : H
  pub was_handed : H
  pub fresh : Bool
  pub after : Merge L

-- Where a walk stands: under these open nodes, the innermost first, before what is left of a level, which is handed
-- this and was handed that; the stops to which it still has to go; the changes that it has found; and the steps that
-- it has spent, with one for each change, since each is put.
pub record State (L K H : Type 0) : Type 0 where
  pub above : List (Open L H)
  pub handed : H
  pub was_handed : H
  pub here : Merge L
  pub stops : List Stop
  pub changes : List (ℕ × K)
  pub spent : ℕ

module _ {L : Type 0} where
  -- on a fresh level, one under a node that comes, all comes
  abbrev pub IsFresh : Bool → Merge L → Type 0
  IsFresh true level = level ≡ all_come (new_of level)
  IsFresh false level = Unit {0}

module _ {L H : Type 0} where
  -- the level under these open nodes is fresh
  abbrev pub is_fresh : List (Open L H) → Bool
  is_fresh [] = false
  is_fresh (open_node ∷ above) = open_node.fresh

  -- so is what is after each open node
  abbrev pub AreFresh : List (Open L H) → Type 0
  AreFresh [] = Unit {0}
  AreFresh (open_node ∷ above) = IsFresh (is_fresh above) open_node.after × AreFresh above

  -- what is after each open node has distinct keys
  abbrev pub AreDistinct : List (Open L H) → Type 0
  AreDistinct [] = Unit {0}
  AreDistinct (open_node ∷ above) = HasDistinctKeys (new_of open_node.after) × AreDistinct above

  -- each open node is an element, now and before, with one key
  abbrev pub AreElements : (L → Bool) → List (Open L H) → Type 0
  AreElements is_element [] = Unit {0}
  AreElements is_element (open_node ∷ above) =
      (is_element open_node.node.label ≡ true) × (is_element open_node.was_node.label ≡ true) × (open_node.was_node.key ≡ open_node.node.key)
      × AreElements is_element above

  -- the stops of a level under these open nodes; on a fresh one there is none
  abbrev pub level_stops : (L → Bool) → List (Open L H) → Merge L → List Stop
  level_stops is_element above level = if is_fresh above then [] else stops_of is_element (length above) level

  -- the stops behind the open nodes
  abbrev pub stops_behind : (L → Bool) → List (Open L H) → List Stop
  stops_behind is_element [] = []
  stops_behind is_element (open_node ∷ above) = level_stops is_element above open_node.after ++ stops_behind is_element above

  -- how much is left to walk behind the open nodes: each node is entered and left
  abbrev pub left_behind : List (Open L H) → ℕ
  left_behind [] = 0
  left_behind (open_node ∷ above) = 1 + (2 * size (new_of open_node.after) + left_behind above)

-- how much is left to walk in all, with the stops
abbrev pub left : {L K H : Type 0} → State L K H → ℕ
left state = 2 * size (new_of state.here) + (left_behind state.above + length state.stops)

module _ {L K H : Type 0} (evaluator : Evaluator L K H) where
  -- What an open node hands to the node after it now, and what it handed before, where this is handed on behind its
  -- children. One that comes handed nothing.
  abbrev pub new_past : Open L H → H → H
  new_past open_node behind = evaluator.past open_node.node open_node.handed behind

  abbrev pub old_past : Open L H → H → H
  old_past open_node behind = if open_node.fresh then behind else evaluator.past open_node.was_node open_node.was_handed behind

  -- what was told of an open node
  abbrev pub old_told : Open L H → H → List (ℕ × K)
  old_told open_node behind = if open_node.fresh then [] else told evaluator open_node.was_node open_node.was_handed behind

  -- what the new evaluation still tells of the open nodes and behind them, and what it still tells in all
  abbrev pub news_behind : List (Open L H) → H → List (ℕ × K)
  news_behind [] behind = []
  news_behind (open_node ∷ above) behind =
      told evaluator open_node.node open_node.handed behind
      ++ (told_all evaluator (new_past open_node behind) (new_of open_node.after)
      ++ news_behind above (past_all evaluator (new_past open_node behind) (new_of open_node.after)))

  abbrev pub news : List (Open L H) → H → Merge L → List (ℕ × K)
  news above handed level = told_all evaluator handed (new_of level) ++ news_behind above (past_all evaluator handed (new_of level))

  -- the same of the old evaluation
  abbrev pub olds_behind : List (Open L H) → H → List (ℕ × K)
  olds_behind [] behind = []
  olds_behind (open_node ∷ above) behind =
      old_told open_node behind
      ++ (told_all evaluator (old_past open_node behind) (old_of open_node.after)
      ++ olds_behind above (past_all evaluator (old_past open_node behind) (old_of open_node.after)))

  abbrev pub olds : List (Open L H) → H → Merge L → List (ℕ × K)
  olds above was_handed level = told_all evaluator was_handed (old_of level) ++ olds_behind above (past_all evaluator was_handed (old_of level))

  -- what is handed at the first place of a level, or at its end where it has none
  abbrev pub handed_at_place : H → Merge L → H
  handed_at_place handed End = handed
  handed_at_place handed (Kept node children after) =
      if has_place children then handed
      else handed_at_place (evaluator.past node handed (past_all evaluator (evaluator.within node handed) (new_of children))) after
  handed_at_place handed (Turned was node children after) = handed
  handed_at_place handed (Gone node children after) = handed
  handed_at_place handed (Come node children after) = handed

  -- the elements that stay and are evaluated anew behind the open nodes, and in all
  abbrev pub anew_behind : List (Open L H) → (behind was_behind : H) → ℕ
  anew_behind [] behind was_behind = 0
  anew_behind (open_node ∷ above) behind was_behind =
      anew_count evaluator (new_past open_node behind) (old_past open_node was_behind) open_node.after
      + anew_behind above (past_all evaluator (new_past open_node behind) (new_of open_node.after)) (past_all evaluator (old_past open_node was_behind) (old_of open_node.after))

  abbrev pub anew_left : List (Open L H) → (handed was_handed : H) → Merge L → ℕ
  anew_left above handed was_handed level =
      anew_count evaluator handed was_handed level
      + anew_behind above (past_all evaluator handed (new_of level)) (past_all evaluator was_handed (old_of level))

  -- the elements that come behind the open nodes, and in all
  abbrev pub come_behind : List (Open L H) → ℕ
  come_behind [] = 0
  come_behind (open_node ∷ above) = come_count evaluator.is_element open_node.after + come_behind above

  abbrev pub come_left : List (Open L H) → Merge L → ℕ
  come_left above level = come_count evaluator.is_element level + come_behind above

  -- the open nodes can be closed, and the nodes behind them opened and closed, with what they are handed
  abbrev pub FitBehind : Asks L H → List (Open L H) → H → Type 0
  FitBehind asks [] behind = Unit {0}
  FitBehind asks (open_node ∷ above) behind =
      asks.closes open_node.node open_node.handed behind
      × AllFit evaluator asks (new_past open_node behind) (new_of open_node.after)
      × FitBehind asks above (past_all evaluator (new_past open_node behind) (new_of open_node.after))

  -- all that is left can be opened and closed
  pub record Fits (asks : Asks L H) (state : State L K H) : Type 0 where
    pub here : AllFit evaluator asks state.handed (new_of state.here)
    pub behind : FitBehind asks state.above (past_all evaluator state.handed (new_of state.here))

  -- What a walk has found, and what it still has to find, where this is held of the old evaluation, the new one tells
  -- all this, and the walk may spend so much.
  pub record Walks (held : ℕ → Option K) (all : List (ℕ × K)) (most : ℕ) (state : State L K H) : Type 0 where
    -- what was told so far is among the changes, or held
    pub done : List (ℕ × K)
    pub split : all ≡ done ++ news state.above state.handed state.here
    pub covered : Covers state.changes held done
    pub among : AreAmong state.changes all
    -- what the old evaluation still tells is held
    pub holds : Holds held (olds state.above state.was_handed state.here)
    pub waits : state.stops ≡ level_stops evaluator.is_element state.above state.here ++ stops_behind evaluator.is_element state.above
    pub fresh : IsFresh (is_fresh state.above) state.here
    pub fresh_behind : AreFresh state.above
    pub distinct : HasDistinctKeys (new_of state.here)
    pub distinct_behind : AreDistinct state.above
    pub elements : AreElements evaluator.is_element state.above
    -- steps for trees that are skipped next; there are none right behind such trees, where the walk stands at a place
    pub credit : ℕ
    pub rested : (credit ≡ 2) ⊎ (from_place state.here ≡ state.here)
    -- each open node has its steps to be left and put, and those for trees skipped behind it; each stop at a tree that goes or comes
    -- has those behind it
    pub few :
        state.spent
        + set_aside (anew_left state.above state.handed state.was_handed state.here) (come_left state.above state.here)
        + 4 * length state.above + 2 * places_ahead state.stops + credit
        ≤ most

  -- a walk goes on: so much is known of it again, and less is left to walk
  abbrev pub GoesOn : (ℕ → Option K) → List (ℕ × K) → ℕ → (now next : State L K H) → Type 0
  GoesOn held all most now next = Walks held all most next × (left next < left now)
