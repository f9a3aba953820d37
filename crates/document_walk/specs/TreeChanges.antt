-- What the boxes of trees do to counters, as it is told by what is handed from node to node (our own).
use Rattle.std.specs.Prelude.{true, List, [], ◌++◌, Option, Some, None}
use Rattle.forest.specs.Forest.{Forest, Empty, Tree}
use Rattle.forest.specs.Keys.{Keyed}
use Rattle.plain_types.specs.declared.counter_style.CounterStyle.{CounterStyle}
use Rattle.box_eval.specs.declared.change.Change.{Change}
use Rattle.box_eval.specs.Elements.{by_parent}
use Rattle.box_eval.specs.Evaluation.{StyledNode, changes_in, first_changes, is_boxed}
use Rattle.merged_walk.specs.Evaluators.{past_all}
use Rattle.surroundings.specs.declared.surroundings.Surroundings.{Surroundings}
use Rattle.surroundings.specs.StyledEvaluators.{inside_node, past_styled, said_of, styled_evaluator}
use Rattle.surroundings.specs.Surroundings.{handed_by}

module _ (table : List CounterStyle) where
  -- what a node's boxes before its children do; in an element without a box nothing is handed, and it has none
  abbrev pub changes_before_children : Keyed StyledNode → Option Surroundings → List Change
  changes_before_children node None = []
  changes_before_children node (Some around) = first_changes table by_parent (is_boxed true node.label) node.key node.label (handed_by around)

  -- and its box after them, where this is handed on behind them
  abbrev pub changes_after_children : Keyed StyledNode → (handed behind : Option Surroundings) → List Change
  changes_after_children node handed behind = changes_in (said_of table node handed behind).after

  -- what the boxes of trees side by side do, of which the first is handed this, in tree order
  abbrev pub tree_changes : Option Surroundings → Forest (Keyed StyledNode) → List Change
  tree_changes handed Empty = []
  tree_changes handed (Tree node children after) =
      let inner = inside_node table node handed in
      let behind = past_all (styled_evaluator table) inner children in
      changes_before_children node handed
      ++ (tree_changes inner children
      ++ (changes_after_children node handed behind
      ++ tree_changes (past_styled table node handed behind) after))
