-- What is kept of elements, by their keys, to tell what is done to a counter in its scope (our own, over CSS Lists 3, 4.4).
use Rattle.std.specs.Prelude.{◌≡◌, ℕ, List, [], ◌∷◌, ◌++◌, Option, Some, None, if◌then◌else◌}
use Rattle.forest.specs.Forest.{Forest, Empty, Tree}
use Rattle.forest.specs.Keys.{Keyed}
use Rattle.plain_types.specs.declared.counter.Counter.{Counter}
use Rattle.plain_types.specs.declared.counter_style.CounterStyle.{CounterStyle}
use Rattle.box_eval.specs.declared.element_record.ElementRecord.{ElementRecord}
use Rattle.box_eval.specs.Evaluation.{StyledNode}
use Rattle.merged_walk.specs.Entries.{first_at}
use Rattle.merged_walk.specs.Evaluators.{past_all}
use Rattle.surroundings.specs.declared.surroundings.Surroundings.{Surroundings}
use Rattle.surroundings.specs.StyledEvaluators.{inside_node, is_element, past_styled, root_surroundings, said_of, styled_evaluator}
use Rattle.document_walk.specs.TreeChanges.{changes_after_children, changes_before_children}
use Rattle.start_reach.specs.Deeds.{Deeds}

-- what is kept of an element: the counters of its own box, where it has one, and what its boxes do
pub record Counting : Type 0 where
  pub own : Option (List Counter)
  pub deeds : Deeds

-- the counters of its own box, as they are said of it
abbrev pub own_set : ElementRecord → Option (List Counter)
own_set said = if said.has_box then Some said.own else None

module _ (table : List CounterStyle) where
  -- that of an element that is handed this, where that is handed on behind its children
  abbrev pub counting_of : Keyed StyledNode → (handed behind : Option Surroundings) → Counting
  counting_of node handed behind = record {
    own = own_set (said_of table node handed behind);
    deeds = record { before_children = changes_before_children table node handed; after_children = changes_after_children table node handed behind };
  }

  -- that of the elements of trees, of which the first is handed this, in the order in which they are left
  abbrev pub counting_in : Option Surroundings → Forest (Keyed StyledNode) → List (ℕ × Counting)
  counting_in handed Empty = []
  counting_in handed (Tree node children after) =
      let inside : Option Surroundings = inside_node table node handed in
      let behind : Option Surroundings = past_all (styled_evaluator table) inside children in
      counting_in inside children
      ++ ((if is_element node.label then (node.key, counting_of node handed behind) ∷ [] else [])
      ++ counting_in (past_styled table node handed behind) after)

  -- a map has it of each element of a document, and has nothing else
  abbrev pub KeepsCounting : Forest (Keyed StyledNode) → (ℕ → Option Counting) → Type 0
  KeepsCounting document kept = (key : ℕ) → kept key ≡ first_at (counting_in root_surroundings document) key
