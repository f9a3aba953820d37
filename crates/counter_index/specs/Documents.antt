-- The index of a document (our own, over CSS Lists 3, 4.4).
use Rattle.std.specs.Prelude.{◌≡◌, ℕ, List, [], ◌∷◌, ◌++◌, Option, if◌then◌else◌, option_and_then}
use Rattle.forest.specs.Forest.{Forest, Empty, Tree}
use Rattle.forest.specs.Keys.{Keyed}
use Rattle.plain_types.specs.declared.counter_style.CounterStyle.{CounterStyle}
use Rattle.plain_types.specs.declared.node.Node.{Node}
use Rattle.plain_types.specs.declared.style.ElementStyle.{ElementStyle}
use Rattle.plain_types.specs.declared.style.Style.{Style}
use Rattle.box_eval.specs.Evaluation.{StyledNode, styled}
use Rattle.box_eval.specs.Starts.{document_starts, no_starts}
use Rattle.merged_walk.specs.Entries.{first_at}
use Rattle.merged_walk.specs.Evaluators.{past_all}
use Rattle.surroundings.specs.declared.surroundings.Surroundings.{Surroundings}
use Rattle.surroundings.specs.StyledEvaluators.{inside_node, is_element, past_styled, root_surroundings, starts_of, styled_evaluator}
use Rattle.scope_deeds.specs.Counting.{Counting, counting_of}
use Rattle.counter_index.specs.declared.deeds.CounterDeeds.{CounterDeeds}
use Rattle.counter_index.specs.declared.index.CounterIndex.{CounterIndex}
use Rattle.counter_index.specs.Indexes.{asked_at, deeds_at, starts_at, with_values}
use Rattle.counter_index.specs.Told.{deeds_kept, told_without_starts}

module _ (table : List CounterStyle) where
  -- what an element does that is handed this, where that is handed on behind its children
  abbrev pub counter_deeds_of : Keyed StyledNode → (handed behind : Option Surroundings) → CounterDeeds
  counter_deeds_of node handed behind =
      let its : Counting = counting_of table node handed behind in
      record { own = its.own; asked = starts_of node handed; before_children = its.deeds.before_children; after_children = its.deeds.after_children }

  -- and of the elements of trees, of which the first is handed this, in the order in which they are left
  abbrev pub counter_deeds_in : Option Surroundings → Forest (Keyed StyledNode) → List (ℕ × CounterDeeds)
  counter_deeds_in handed Empty = []
  counter_deeds_in handed (Tree node children after) =
      let inside : Option Surroundings = inside_node table node handed in
      let behind : Option Surroundings = past_all (styled_evaluator table) inside children in
      counter_deeds_in inside children
      ++ ((if is_element node.label then (node.key, counter_deeds_of node handed behind) ∷ [] else [])
      ++ counter_deeds_in (past_styled table node handed behind) after)

module _ (table : List CounterStyle) (style : ℕ → Option Style → ElementStyle) (tree : Forest (Keyed Node)) where
  -- what each element of a document does where all starts are 0
  abbrev pub all_deeds : ℕ → Option CounterDeeds
  all_deeds key = first_at (counter_deeds_in table root_surroundings (styled style no_starts tree)) key

  module _ (index : CounterIndex) where
    -- an index has that of each element that meets a reversed counter, and nothing else
    abbrev pub KeepsDeeds : Type 0
    KeepsDeeds = (key : ℕ) → deeds_at index key ≡ option_and_then deeds_kept (first_at (told_without_starts table style tree) key)

    -- it has the starts for which each element asks, each with its value
    abbrev pub KeepsStarts : Type 0
    KeepsStarts = (key : ℕ) → starts_at index key ≡ with_values (document_starts table style tree) (asked_at index key)

    pub record IsCounterIndex : Type 0 where
      pub deeds : KeepsDeeds
      pub starts : KeepsStarts
