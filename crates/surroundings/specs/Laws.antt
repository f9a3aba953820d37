-- Laws of the evaluation of styled documents as what is handed from node to node.
use Rattle.std.specs.Prelude.{◌≡◌, ◌<◌, ◌↔◌, ℕ, true, List, Option, Some, Contains, filter, is_some, map}
use Rattle.std.specs.List.{list_any}
use Rattle.std.specs.Option.{option_eq}
use Rattle.forest.specs.Forest.{Forest}
use Rattle.forest.specs.Keys.{Keyed, HasDistinctKeys, times}
use Rattle.forest.specs.Spots.{label_of, on_link}
use Rattle.node_arena.specs.Changes.{alone}
use Rattle.plain_types.specs.declared.counter_style.CounterStyle.{CounterStyle}
use Rattle.box_eval.specs.declared.inputs.Inputs.{Inputs}
use Rattle.box_eval.specs.Elements.{Styled}
use Rattle.box_eval.specs.Evaluation.{Element, StyledNode, all_inputs, evaluation}
use Rattle.box_eval.specs.Starts.{any_asks_for_start, has_starts}
use Rattle.merged_walk.specs.Entries.{first_at}
use Rattle.merged_walk.specs.Evaluators.{AllFit, IsSound, inputs, told_all}
use Rattle.surroundings.specs.declared.surroundings.Surroundings.{Surroundings}
use Rattle.surroundings.specs.declared.told.Told.{Told}
use Rattle.surroundings.specs.Surroundings.{is_same, surroundings_in}
use Rattle.surroundings.specs.StyledEvaluators.{kept_of, root_surroundings, styled_asks, styled_evaluator}

-- The tests tell what is handed.

abbrev pub TestsDecide : Type 0
TestsDecide = (one other : Surroundings) → (is_same one other ≡ true) ↔ (one ≡ other)

abbrev pub TestsDecideWhatIsHanded : Type 0
TestsDecideWhatIsHanded = (one other : Option Surroundings) → (option_eq is_same one other ≡ true) ↔ (one ≡ other)

-- A walk may stand on the evaluator.
abbrev pub EvaluatorIsSound : Type 0
EvaluatorIsSound = (table : List CounterStyle) → IsSound (styled_evaluator table)

-- What it tells of a document.

abbrev pub told_document : List CounterStyle → Forest (Keyed StyledNode) → List (ℕ × Told)
told_document table trees = told_all (styled_evaluator table) root_surroundings trees

-- starts are asked for where what is kept of some element asks for one
abbrev pub TellsWhoAsks : Type 0
TellsWhoAsks =
    (table : List CounterStyle) (trees : Forest (Keyed StyledNode)) → any_asks_for_start true trees ≡ list_any (λ (entry : ℕ × Told). entry.1.asks) (told_document table trees)

-- and an element asks where there are starts that it was given
abbrev pub TellsWhatIsAsked : Type 0
TellsWhatIsAsked =
    (table : List CounterStyle) (node : Keyed StyledNode) (handed behind : Option Surroundings)
    → let told : Told = kept_of table node handed behind in told.asks ≡ has_starts told.starts

abbrev pub OfEachDocument : (List CounterStyle → Forest (Keyed StyledNode) → Type 0) → Type 0
OfEachDocument law = (table : List CounterStyle) (trees : Forest (Keyed StyledNode)) → HasDistinctKeys trees → law table trees

-- what is said of its elements is its evaluation
abbrev pub SaysTheEvaluation : List CounterStyle → Forest (Keyed StyledNode) → Type 0
SaysTheEvaluation table trees = map (λ (entry : ℕ × Told). (entry.0, entry.1.said)) (told_document table trees) ≡ evaluation table trees

-- each of its nodes can be opened and closed
abbrev pub EachNodeFits : List CounterStyle → Forest (Keyed StyledNode) → Type 0
EachNodeFits table trees = AllFit (styled_evaluator table) styled_asks root_surroundings trees

-- What its elements are handed are their inputs, but for the starts, which are the elements' own. In an element without a
-- box there are none.
pub record AreItsInputs (table : List CounterStyle) (trees : Forest (Keyed StyledNode)) : Type 0 where
  pub handed :
      map (λ (inputs : Inputs). (inputs.key, Some (surroundings_in inputs))) (all_inputs table trees)
      ≡ filter (λ (entry : ℕ × Option Surroundings). is_some entry.1) (inputs (styled_evaluator table) root_surroundings trees)
  pub starts :
      (inputs : Inputs) → Contains (all_inputs table trees) inputs
      → (element : Styled) × (label_of trees inputs.key ≡ Some (Element element)) × (element.starts ≡ inputs.starts)

-- A node that two documents share with all under it, of whose key both have the same inputs, is told the same in both,
-- and so is all under it.
abbrev pub SharedSubtreesAreToldByTheirInputs : Type 0
SharedSubtreesAreToldByTheirInputs =
    (table : List CounterStyle) (first second : Forest (Keyed StyledNode)) (key : ℕ) (inputs : Inputs)
    → HasDistinctKeys first → HasDistinctKeys second
    → alone (on_link first (Some key)) ≡ alone (on_link second (Some key))
    → inputs.key ≡ key → Contains (all_inputs table first) inputs → Contains (all_inputs table second) inputs
    → (under : ℕ) → 0 < times under (alone (on_link first (Some key)))
    → first_at (evaluation table first) under ≡ first_at (evaluation table second) under
