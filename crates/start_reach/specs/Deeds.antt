-- What elements do to counters, by their keys (our own): so it can be kept of each of them, and compared.
use Rattle.std.specs.Prelude.{◌≡◌, ◌<◌, ◌++◌, ℕ, List, [], ◌∷◌, Option, None, if◌then◌else◌}
use Rattle.std.specs.Option.{option_map_or}
use Rattle.forest.specs.Forest.{Forest, Empty, Tree}
use Rattle.forest.specs.Keys.{Keyed, times}
use Rattle.plain_types.specs.declared.counter_style.CounterStyle.{CounterStyle}
use Rattle.reversed_start.specs.declared.event.Event.{Event}
use Rattle.box_eval.specs.declared.change.Change.{Change}
use Rattle.box_eval.specs.Evaluation.{StyledNode}
use Rattle.merged_walk.specs.Counts.{weigh_places}
use Rattle.merged_walk.specs.Entries.{Holds}
use Rattle.merged_walk.specs.Evaluators.{past_all}
use Rattle.merged_walk.specs.Merges.{Merge, new_of, old_of}
use Rattle.surroundings.specs.declared.surroundings.Surroundings.{Surroundings}
use Rattle.surroundings.specs.StyledEvaluators.{inside_node, is_element, past_styled, styled_evaluator}
use Rattle.document_walk.specs.TreeChanges.{changes_after_children, changes_before_children}
use Rattle.edit_work.specs.Counters.{Identity}
use Rattle.start_reach.specs.CounterChanges.{counter_events}

-- what an element does by its boxes before its children, and by the one after them
pub record Deeds : Type 0 where
  pub before_children : List Change
  pub after_children : List Change

module _ (table : List CounterStyle) where
  -- those of a node, under its key, where it is an element
  abbrev pub deeds_of : Keyed StyledNode → (handed behind : Option Surroundings) → List (ℕ × Deeds)
  deeds_of node handed behind =
      if is_element node.label then (node.key, record { before_children = changes_before_children table node handed; after_children = changes_after_children table node handed behind }) ∷ []
      else []

  -- those of trees, of which the first is handed this, in the order in which their elements are left
  abbrev pub deeds_in : Option Surroundings → Forest (Keyed StyledNode) → List (ℕ × Deeds)
  deeds_in handed Empty = []
  deeds_in handed (Tree node children after) =
      let inside : Option Surroundings = inside_node table node handed in
      let behind : Option Surroundings = past_all (styled_evaluator table) inside children in
      deeds_in inside children ++ (deeds_of node handed behind ++ deeds_in (past_styled table node handed behind) after)

module _ (counter : Identity) where
  -- what is done to a counter before children and after them; an element that is not there does nothing
  abbrev pub events_before : Option Deeds → List Event
  events_before deeds = option_map_or (λ (its : Deeds). counter_events counter its.before_children) deeds []

  abbrev pub events_after : Option Deeds → List Event
  events_after deeds = option_map_or (λ (its : Deeds). counter_events counter its.after_children) deeds []

  pub record AreAlike (one other : Option Deeds) : Type 0 where
    pub before_children : events_before one ≡ events_before other
    pub after_children : events_after one ≡ events_after other

  abbrev pub IsIdle : Option Deeds → Type 0
  IsIdle deeds = AreAlike deeds None

-- Two maps have what elements do after an edit and what they did before it; the second has nothing of other elements. To a counter
-- each element does the same as before, and one that goes did nothing.
pub record AreCompared (table : List CounterStyle) (counter : Identity) (handed was_handed : Option Surroundings) (merge : Merge StyledNode) (now was : ℕ → Option Deeds) : Type 0 where
  pub does : Holds now (deeds_in table handed (new_of merge))
  pub did : Holds was (deeds_in table was_handed (old_of merge))
  pub others : (key : ℕ) → times key (old_of merge) ≡ 0 → was key ≡ None
  pub alike : (key : ℕ) → AreAlike counter (now key) (was key)
  pub idle : (key : ℕ) → 0 < weigh_places (times key) (λ _. 0) merge → IsIdle counter (was key)
