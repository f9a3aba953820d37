-- What an edit changes of what elements do to a counter (our own, over CSS Lists 3, 4.4).
use Rattle.std.specs.Prelude.{◌≡◌, ◌<◌, ℕ, Bool, true, false, not, ◌||◌, List, [], Option}
use Rattle.std.specs.Option.{option_eq}
use Rattle.forest.specs.Forest.{Forest, Empty, Tree}
use Rattle.forest.specs.Keys.{Keyed, times}
use Rattle.plain_types.specs.declared.counter_style.CounterStyle.{CounterStyle}
use Rattle.reversed_start.specs.declared.event.Event.{Event}
use Rattle.box_eval.specs.declared.change.Change.{Change}
use Rattle.box_eval.specs.Evaluation.{StyledNode}
use Rattle.box_eval.specs.Starts.{events_of}
use Rattle.merged_walk.specs.Evaluators.{past_all}
use Rattle.merged_walk.specs.Merges.{Merge, End, Kept, Turned, Gone, Come, has_place, new_of, old_of}
use Rattle.surroundings.specs.declared.surroundings.Surroundings.{Surroundings}
use Rattle.surroundings.specs.StyledEvaluators.{inside_node, past_styled, styled_evaluator}
use Rattle.surroundings.specs.Surroundings.{is_same}
use Rattle.document_walk.specs.TreeChanges.{changes_after_children, changes_before_children, tree_changes}
use Rattle.edit_work.specs.Counters.{Identity}

-- the events of a counter among changes
abbrev pub counter_events : Identity → List Change → List Event
counter_events counter changes = events_of changes counter.creator counter.name

-- a walk goes into an element that stays: a place of the edit is under it, or it is handed something else than it was
abbrev pub is_entered : (handed was_handed : Option Surroundings) → (children : Merge StyledNode) → Bool
is_entered handed was_handed children = has_place children || not (option_eq is_same handed was_handed)

module _ (table : List CounterStyle) (counter : Identity) where
  -- What a node does to the counter after the edit is what it did before. It is handed this and was handed that, and so it
  -- is with what is handed on behind its children.
  pub record DoesSame (was node : Keyed StyledNode) (handed was_handed behind was_behind : Option Surroundings) : Type 0 where
    pub before_children :
        counter_events counter (changes_before_children table node handed) ≡ counter_events counter (changes_before_children table was was_handed)
    pub after_children :
        counter_events counter (changes_after_children table node handed behind) ≡ counter_events counter (changes_after_children table was was_handed was_behind)

  -- no node of trees does anything to it, where the first of them is handed this
  abbrev pub DoNothing : (handed : Option Surroundings) → Forest (Keyed StyledNode) → Type 0
  DoNothing handed trees = counter_events counter (tree_changes table handed trees) ≡ []

  -- An edit leaves the counter alone: no tree that goes or comes does anything to it, and each node that stays does the
  -- same as before, if a walk goes into it or it is turned.
  abbrev pub LeavesAlone : (handed was_handed : Option Surroundings) → Merge StyledNode → Type 0
  LeavesAlone handed was_handed End = Unit {0}
  LeavesAlone handed was_handed (Kept node children after) =
      let inside : Option Surroundings = inside_node table node handed in
      let was_inside : Option Surroundings = inside_node table node was_handed in
      let behind : Option Surroundings = past_all (styled_evaluator table) inside (new_of children) in
      let was_behind : Option Surroundings = past_all (styled_evaluator table) was_inside (old_of children) in
      (is_entered handed was_handed children ≡ true → DoesSame node node handed was_handed behind was_behind)
      × LeavesAlone inside was_inside children
      × LeavesAlone (past_styled table node handed behind) (past_styled table node was_handed was_behind) after
  LeavesAlone handed was_handed (Turned was node children after) =
      let inside : Option Surroundings = inside_node table node handed in
      let was_inside : Option Surroundings = inside_node table was was_handed in
      let behind : Option Surroundings = past_all (styled_evaluator table) inside (new_of children) in
      let was_behind : Option Surroundings = past_all (styled_evaluator table) was_inside (old_of children) in
      DoesSame was node handed was_handed behind was_behind
      × LeavesAlone inside was_inside children
      × LeavesAlone (past_styled table node handed behind) (past_styled table was was_handed was_behind) after
  LeavesAlone handed was_handed (Gone node children after) =
      let was_behind : Option Surroundings = past_all (styled_evaluator table) (inside_node table node was_handed) children in
      DoNothing was_handed (Tree node children Empty) × LeavesAlone handed (past_styled table node was_handed was_behind) after
  LeavesAlone handed was_handed (Come node children after) =
      let behind : Option Surroundings = past_all (styled_evaluator table) (inside_node table node handed) children in
      DoNothing handed (Tree node children Empty) × LeavesAlone (past_styled table node handed behind) was_handed after

-- a fact of the key of each node under an element that stays and into which a walk does not go
module _ (table : List CounterStyle) (Holds : ℕ → Type 0) where
  abbrev pub OfEachSkipped : (handed was_handed : Option Surroundings) → Merge StyledNode → Type 0
  OfEachSkipped handed was_handed End = Unit {0}
  OfEachSkipped handed was_handed (Kept node children after) =
      let inside : Option Surroundings = inside_node table node handed in
      let was_inside : Option Surroundings = inside_node table node was_handed in
      let behind : Option Surroundings = past_all (styled_evaluator table) inside (new_of children) in
      let was_behind : Option Surroundings = past_all (styled_evaluator table) was_inside (old_of children) in
      (is_entered handed was_handed children ≡ false → (key : ℕ) → 0 < times key (new_of children) → Holds key)
      × OfEachSkipped inside was_inside children
      × OfEachSkipped (past_styled table node handed behind) (past_styled table node was_handed was_behind) after
  OfEachSkipped handed was_handed (Turned was node children after) =
      let inside : Option Surroundings = inside_node table node handed in
      let was_inside : Option Surroundings = inside_node table was was_handed in
      let behind : Option Surroundings = past_all (styled_evaluator table) inside (new_of children) in
      let was_behind : Option Surroundings = past_all (styled_evaluator table) was_inside (old_of children) in
      OfEachSkipped inside was_inside children × OfEachSkipped (past_styled table node handed behind) (past_styled table was was_handed was_behind) after
  OfEachSkipped handed was_handed (Gone node children after) =
      OfEachSkipped handed (past_styled table node was_handed (past_all (styled_evaluator table) (inside_node table node was_handed) children)) after
  OfEachSkipped handed was_handed (Come node children after) =
      OfEachSkipped (past_styled table node handed (past_all (styled_evaluator table) (inside_node table node handed) children)) was_handed after
