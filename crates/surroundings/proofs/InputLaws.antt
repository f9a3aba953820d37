-- What elements are handed are their inputs, but for the starts, which are the elements' own.
use Rattle.std.proofs.Common.{◌≡◌, ℕ, Bool, true, false, List, [], ◌∷◌, ◌++◌, Option, Some, None, refl, sym, ap, subst, ◌∙◌, inl, inr, arith}
use Rattle.std.specs.Prelude.{Contains, filter, is_some, map, option_map}
use Rattle.std.proofs.lemmas.List.{map-append}
use Rattle.std.proofs.lemmas.List.Elements.{Contains-append_cases, Contains-push_cases, filter-append}
use Rattle.forest.specs.Forest.{Forest, Empty, Tree}
use Rattle.forest.specs.Keys.{Keyed, HasDistinctKeys}
use Rattle.forest.specs.Spots.{Spot, spot}
use Rattle.forest.proofs.SpotLaws.{distinct-parts, spot-below, spot-beside, spot-root, the_spot}
use Rattle.plain_types.specs.declared.counter_style.CounterStyle.{CounterStyle}
use Rattle.box_eval.specs.declared.inputs.Inputs.{Inputs}
use Rattle.box_eval.specs.Boxes.{generates_box}
use Rattle.box_eval.specs.Elements.{Handed, Styled, at_root, by_parent}
use Rattle.box_eval.specs.Evaluation.{StyledNode, Element, Text, inputs as box_inputs, inputs_of, is_boxed, past_node, past_trees, within}
use Rattle.box_eval.proofs.DocumentLemmas as documents
use Rattle.merged_walk.specs.Evaluators.{Evaluator, input, inputs, past_all}
use Rattle.surroundings.specs.declared.surroundings.Surroundings.{Surroundings}
use Rattle.surroundings.specs.declared.told.Told.{Told}
use Rattle.surroundings.specs.Surroundings.{surroundings_in, surroundings_of}
use Rattle.surroundings.specs.StyledEvaluators.{styled_evaluator}
use Rattle.surroundings.specs.Laws.{AreItsInputs}
use Rattle.surroundings.proofs.Said.{agrees, behind_if, inner_if, next-is, next_with}

abbrev is_handed : ℕ × Option Surroundings → Bool
is_handed entry = is_some entry.1

abbrev handed_of : Inputs → ℕ × Option Surroundings
handed_of inputs = (inputs.key, Some (surroundings_in inputs))

three_filtered : {A : Type 0} (test : A → Bool) (xs ys zs : List A) → filter test (xs ++ (ys ++ zs)) ≡ filter test xs ++ (filter test ys ++ filter test zs)
three_filtered test xs ys zs = filter-append test xs (ys ++ zs) ∙ ap (λ all. filter test xs ++ all) (filter-append test ys zs)

pub none_contained : {A : Type 0} (x : A) → Contains [] x → ⊥
none_contained x h = let below = h.1 in omega arith

pub one_contained : {A : Type 0} (y x : A) → Contains (y ∷ []) x → y ≡ x
one_contained y x h = elim (Contains-push_cases [] y x h) [ inl none ↦ absurd (none_contained x none) | inr same ↦ same ]

module _ (table : List CounterStyle) where
  abbrev e : Evaluator StyledNode Told (Option Surroundings)
  e = styled_evaluator table

  -- In an element without a box.

  none-own : (key : ℕ) (label : StyledNode) → filter is_handed (input e (record { key = key; label = label }) None) ≡ []
  none-own key (Element element) = refl
  none-own key Text = refl

  none-handed : (trees : Forest (Keyed StyledNode)) → filter is_handed (inputs e None trees) ≡ []
  none-handed Empty = refl
  none-handed (Tree n c r) =
      three_filtered is_handed (input e n None) (inputs e None c) (inputs e None r)
      ∙ (λ i. none-own n.key n.label i ++ (none-handed c i ++ none-handed r i))

  none-node : (key : ℕ) (label : StyledNode) (c r : Forest (Keyed StyledNode)) (handed : Handed)
      → box_inputs table by_parent false handed c ≡ [] → box_inputs table by_parent false handed r ≡ [] → box_inputs table by_parent false handed (Tree (record { key = key; label = label }) c r) ≡ []
  none-node key (Element element) c r handed below beside = λ i. below i ++ beside i
  none-node key Text c r handed below beside = λ i. below i ++ beside i

  no-inputs : (trees : Forest (Keyed StyledNode)) (handed : Handed) → box_inputs table by_parent false handed trees ≡ []
  no-inputs Empty handed = refl
  no-inputs (Tree n c r) handed = none-node n.key n.label c r handed (no-inputs c handed) (no-inputs r handed)

  -- Elsewhere.

  abbrev Agree : Forest (Keyed StyledNode) → Handed → Type 0
  Agree trees handed = filter is_handed (inputs e (Some (surroundings_of handed)) trees) ≡ map handed_of (box_inputs table by_parent true handed trees)

  -- what is under a node without a box
  agree-none : (c : Forest (Keyed StyledNode)) (handed : Handed) → filter is_handed (inputs e None c) ≡ map handed_of (box_inputs table by_parent false handed c)
  agree-none c handed = none-handed c ∙ sym (ap (map handed_of) (no-inputs c handed))

  agree-text : (key : ℕ) (c r : Forest (Keyed StyledNode)) (handed : Handed) → Agree r handed → Agree (Tree (record { key = key; label = Text }) c r) handed
  agree-text key c r handed beside =
      filter-append is_handed (inputs e None c) (inputs e (Some (surroundings_of handed)) r)
      ∙ (λ i. agree-none c handed i ++ beside i)
      ∙ sym (map-append handed_of (box_inputs table by_parent false handed c) (box_inputs table by_parent true handed r))

  -- what is under an element and behind it, by whether it has a box
  agree-if : (key : ℕ) (element : Styled) (c r : Forest (Keyed StyledNode)) (handed : Handed) → ((inner : Handed) → Agree c inner) → ((next : Handed) → Agree r next) → (b : Bool)
      → filter is_handed (inputs e (inner_if table key element c r handed b) c) ++ filter is_handed (inputs e (next_with table key element c r handed b (past_all e (inner_if table key element c r handed b) c)) r)
      ≡ map handed_of (box_inputs table by_parent b (within table by_parent b key (Element element) handed) c)
      ++ map handed_of (box_inputs table by_parent true (past_node table by_parent b key (Element element) handed (behind_if table key element c r handed b)) r)
  agree-if key element c r handed below beside true =
      let first = within table by_parent true key (Element element) handed in
      let next = past_node table by_parent true key (Element element) handed (behind_if table key element c r handed true) in
      let later = ap (λ x. filter is_handed (inputs e x r)) (next-is table key element c r handed (λ inner. (agrees table c inner).past) true) ∙ beside next in
      (λ i. below first i ++ later i)
  agree-if key element c r handed below beside false = (λ i. agree-none c handed i ++ beside handed i)

  agree-element : (key : ℕ) (element : Styled) (c r : Forest (Keyed StyledNode)) (handed : Handed) → ((inner : Handed) → Agree c inner) → ((next : Handed) → Agree r next)
      → Agree (Tree (record { key = key; label = Element element }) c r) handed
  agree-element key element c r handed below beside =
      let b = generates_box element.style in
      let around = surroundings_of handed in
      let inner = inner_if table key element c r handed b in
      let next = next_with table key element c r handed b (past_all e inner c) in
      let first = within table by_parent b key (Element element) handed in
      let after = past_node table by_parent b key (Element element) handed (behind_if table key element c r handed b) in
      ap (λ all. (key, Some around) ∷ all)
      (filter-append is_handed (inputs e inner c) (inputs e next r)
      ∙ agree-if key element c r handed below beside b
      ∙ sym (map-append handed_of (box_inputs table by_parent b first c) (box_inputs table by_parent true after r)))

  agree-node : (key : ℕ) (label : StyledNode) (c r : Forest (Keyed StyledNode)) (handed : Handed) → ((inner : Handed) → Agree c inner) → ((next : Handed) → Agree r next)
      → Agree (Tree (record { key = key; label = label }) c r) handed
  agree-node key (Element element) c r handed below beside = agree-element key element c r handed below beside
  agree-node key Text c r handed below beside = agree-text key c r handed (beside handed)

  pub agree-inputs : (trees : Forest (Keyed StyledNode)) (handed : Handed) → Agree trees handed
  agree-inputs Empty handed = refl
  agree-inputs (Tree n c r) handed = agree-node n.key n.label c r handed (agree-inputs c) (agree-inputs r)

  -- The starts are those of the element.

  -- an element stands there with the starts that these inputs have
  record StandsThere (parent : Option ℕ) (earlier : List (Keyed StyledNode)) (trees : Forest (Keyed StyledNode)) (its : Inputs) : Type 0 where
    place : Spot StyledNode
    stands : spot parent earlier trees its.key ≡ Some place
    element : Styled
    is : place.label ≡ Element element
    starts : element.starts ≡ its.starts

  stands-own : (parent : Option ℕ) (earlier : List (Keyed StyledNode)) (key : ℕ) (label : StyledNode) (c r : Forest (Keyed StyledNode)) (boxed : Bool) (handed : Handed) (its : Inputs)
      → Contains (inputs_of table by_parent boxed key label handed) its → StandsThere parent earlier (Tree (record { key = key; label = label }) c r) its
  stands-own parent earlier key (Element element) c r true handed its h =
      let n : Keyed StyledNode = record { key = key; label = Element element } in
      let own : Inputs = record { key = key; parent = handed.parent; sibling = handed.sibling; preceding = handed.preceding; depth = handed.depth; starts = element.starts } in
      subst (StandsThere parent earlier (Tree n c r)) (one_contained own its h)
      (record { place = the_spot parent earlier (Element element) c r; stands = spot-root parent earlier n c r; element = element; is = refl; starts = refl })
  stands-own parent earlier key (Element element) c r false handed its h = absurd (none_contained its h)
  stands-own parent earlier key Text c r true handed its h = absurd (none_contained its h)
  stands-own parent earlier key Text c r false handed its h = absurd (none_contained its h)

  stands-there : (trees : Forest (Keyed StyledNode)) (parent : Option ℕ) (earlier : List (Keyed StyledNode)) (boxed : Bool) (handed : Handed) (its : Inputs) → HasDistinctKeys trees
      → Contains (box_inputs table by_parent boxed handed trees) its → StandsThere parent earlier trees its
  stands-there Empty parent earlier boxed handed its distinct h = absurd (none_contained its h)
  stands-there (Tree n c r) parent earlier boxed handed its distinct h =
      let has = is_boxed boxed n.label in
      let first = within table by_parent has n.key n.label handed in
      let next = past_node table by_parent has n.key n.label handed (past_trees table by_parent has first c) in
      let keys = distinct-parts n c r distinct in
      elim (Contains-append_cases (inputs_of table by_parent boxed n.key n.label handed) (box_inputs table by_parent has first c ++ box_inputs table by_parent boxed next r) its h) [
        | inl own ↦ stands-own parent earlier n.key n.label c r boxed handed its own
        | inr rest ↦ elim (Contains-append_cases (box_inputs table by_parent has first c) (box_inputs table by_parent boxed next r) its rest) [
          | inl below ↦
              let there = stands-there c (Some n.key) [] has first its keys.0 below in
              record { place = there.place; stands = spot-below parent earlier n c r its.key there.place distinct there.stands; element = there.element; is = there.is; starts = there.starts }
          | inr beside ↦
              let there = stands-there r parent (earlier ++ n ∷ []) boxed next its keys.1 beside in
              record { place = there.place; stands = spot-beside parent earlier n c r its.key there.place distinct there.stands; element = there.element; is = there.is; starts = there.starts }
        ]
      ]

  pub inputs-document : (trees : Forest (Keyed StyledNode)) → HasDistinctKeys trees → AreItsInputs table trees
  inputs-document trees distinct =
      let by_peers_too = (documents.told table trees true at_root distinct (documents.root_level trees)).inputs in
      record {
        handed = ap (map handed_of) by_peers_too ∙ sym (agree-inputs trees at_root);
        starts = λ its h.
            let there = stands-there trees None [] true at_root its distinct (subst (λ all. Contains all its) by_peers_too h) in
            (there.element, ap (option_map (λ (s : Spot StyledNode). s.label)) there.stands ∙ ap Some there.is, there.starts);
      }
