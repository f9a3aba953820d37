-- What is kept of an element tells whether it asks for starts, and which it was given.
use Rattle.std.proofs.Common.{◌≡◌, ◌||◌, ◌++◌, ℕ, Bool, true, false, cond, List, Option, Some, None, refl, ap, ◌∙◌}
use Rattle.std.proofs.Math.Bool.{or-false}
use Rattle.std.proofs.lemmas.List.Folds.{list_any-append}
use Rattle.std.specs.Prelude.{is_some}
use Rattle.std.specs.List.{list_any}
use Rattle.forest.specs.Forest.{Forest, Empty, Tree}
use Rattle.forest.specs.Keys.{Keyed}
use Rattle.plain_types.specs.declared.counter_style.CounterStyle.{CounterStyle}
use Rattle.box_eval.specs.Boxes.{generates_box}
use Rattle.box_eval.specs.Evaluation.{Element, StyledNode, Text, is_boxed}
use Rattle.box_eval.specs.Starts.{any_asks_for_start, has_starts, node_asks_for_start}
use Rattle.merged_walk.specs.Evaluators.{past_all, told, told_all}
use Rattle.surroundings.specs.declared.surroundings.Surroundings.{Surroundings}
use Rattle.surroundings.specs.declared.told.Told.{Told}
use Rattle.surroundings.specs.StyledEvaluators.{asks_of, inside_node, past_styled, starts_in, starts_of, styled_evaluator}

abbrev any_asks : List (ℕ × Told) → Bool
any_asks told = list_any (λ (entry : ℕ × Told). entry.1.asks) told

some-if : (b : Bool) (around : Surroundings) → is_some (cond b (Some around) None) ≡ b
some-if true around = refl
some-if false around = refl

swapped : (first second third : Bool) → (first || (second || third)) ≡ (second || (first || third))
swapped true true third = refl
swapped true false third = refl
swapped false true third = refl
swapped false false third = refl

asks-has : (b : Bool) (label : StyledNode) → node_asks_for_start b label ≡ has_starts (starts_in b label)
asks-has true (Element element) = refl
asks-has false (Element element) = refl
asks-has true Text = refl
asks-has false Text = refl

pub asks-starts : (node : Keyed StyledNode) (handed : Option Surroundings) → asks_of node handed ≡ has_starts (starts_of node handed)
asks-starts node None = refl
asks-starts node (Some around) = asks-has (is_boxed true node.label) node.label

module _ (table : List CounterStyle) where
  -- inside an element with a box something is handed, and nothing in one without
  pub inside-some : (key : ℕ) (label : StyledNode) (handed : Option Surroundings) → is_some (inside_node table (record { key = key; label = label }) handed) ≡ is_boxed (is_some handed) label
  inside-some key (Element element) None = refl
  inside-some key Text None = refl
  inside-some key (Element element) (Some around) = some-if (generates_box element.style) _
  inside-some key Text (Some around) = refl

  -- and so behind a node where something is handed to it
  pub past-some : (node : Keyed StyledNode) (handed behind : Option Surroundings) → is_some (past_styled table node handed behind) ≡ is_some handed
  past-some node None behind = refl
  past-some node (Some around) behind = refl

  asks-node : (key : ℕ) (label : StyledNode) (handed behind : Option Surroundings)
      → any_asks (told (styled_evaluator table) (record { key = key; label = label }) handed behind) ≡ node_asks_for_start (is_boxed (is_some handed) label) label
  asks-node key (Element element) None behind = refl
  asks-node key (Element element) (Some around) behind = or-false _
  asks-node key Text None behind = refl
  asks-node key Text (Some around) behind = refl

  pub asks-all : (trees : Forest (Keyed StyledNode)) (handed : Option Surroundings)
      → any_asks (told_all (styled_evaluator table) handed trees) ≡ any_asks_for_start (is_some handed) trees
  asks-all Empty handed = refl
  asks-all (Tree node children after) handed =
      let e = styled_evaluator table in
      let inner = inside_node table node handed in
      let behind = past_all e inner children in
      let next = past_styled table node handed behind in
      let asks = λ (entry : ℕ × Told). entry.1.asks in
      let has = is_boxed (is_some handed) node.label in
      let inside = inside-some node.key node.label handed in
      let below : any_asks (told_all e inner children) ≡ any_asks_for_start has children =
      asks-all children inner ∙ ap (λ b. any_asks_for_start b children) inside in
      let beside : any_asks (told_all e next after) ≡ any_asks_for_start (is_some handed) after =
      asks-all after next ∙ ap (λ b. any_asks_for_start b after) (past-some node handed behind) in
      let own = asks-node node.key node.label handed behind in
      list_any-append asks (told_all e inner children) (told e node handed behind ++ told_all e next after)
      ∙ ap (λ b. any_asks (told_all e inner children) || b) (list_any-append asks (told e node handed behind) (told_all e next after))
      ∙ (λ i. below i || (own i || beside i))
      ∙ swapped (any_asks_for_start has children) (node_asks_for_start has node.label) (any_asks_for_start (is_some handed) after)
