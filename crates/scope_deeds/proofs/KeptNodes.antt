-- What a map has of elements is what is read of them. Throughout, n is a node, c what is under it, r what is after it, g trees, and x
-- what is handed on behind children.
use Rattle.std.proofs.Common.{◌≡◌, ◌++◌, ℕ, Bool, true, false, List, [], ◌∷◌, Option, Some, None, refl, sym, ap, subst, ◌∙◌}
use Rattle.std.specs.Prelude.{All, option_and_then, unwrap_or}
use Rattle.std.specs.Option.{option_map_or}
use Rattle.std.proofs.lemmas.List.Elements.{All-head}
use Rattle.forest.specs.Forest.{Forest, Empty, Tree}
use Rattle.forest.specs.Keys.{Keyed}
use Rattle.plain_types.specs.declared.counter.Counter.{Counter}
use Rattle.plain_types.specs.declared.counter_style.CounterStyle.{CounterStyle}
use Rattle.box_eval.specs.declared.change.Change.{Change}
use Rattle.box_eval.specs.declared.entry.Closing.{Closing}
use Rattle.box_eval.specs.Boxes.{generates_box}
use Rattle.box_eval.specs.Elements.{Handed, Styled, by_parent, closing_of, own_counted}
use Rattle.box_eval.specs.Evaluation.{Element, StyledNode, Text, changes_in, first_changes, is_boxed, last_changes, past_node, past_trees, within}
use Rattle.box_eval.proofs.EntryLemmas.{closing_any}
use Rattle.merged_walk.specs.Entries.{Holds}
use Rattle.merged_walk.specs.Evaluators.{Evaluator, past_all}
use Rattle.merged_walk.proofs.EntryLaws.{all-left, all-right}
use Rattle.surroundings.specs.declared.surroundings.Surroundings.{Surroundings}
use Rattle.surroundings.specs.declared.told.Told.{Told}
use Rattle.surroundings.specs.Surroundings.{handed_by, surroundings_of}
use Rattle.surroundings.specs.StyledEvaluators.{is_element, said_in, styled_evaluator}
use Rattle.surroundings.proofs.Said as said
use Rattle.scope_deeds.specs.Counting.{Counting, counting_in, own_set}
use Rattle.scope_deeds.specs.KeptScopes.{kept_after, kept_before, kept_own}

module _ (table : List CounterStyle) (kept : ℕ → Option Counting) where
  abbrev e : Evaluator StyledNode Told (Option Surroundings)
  e = styled_evaluator table

  -- the counters of a node's own box
  abbrev pub own_in : Bool → ℕ → StyledNode → Handed → Option (List Counter)
  own_in true key (Element element) handed = Some (own_counted table by_parent key element handed).set
  own_in _ key label handed = None

  -- the map has what is read of a node, which has a box or not
  pub record HasNode (has : Bool) (key : ℕ) (label : StyledNode) (handed behind : Handed) : Type 0 where
    pub before : kept_before kept key ≡ first_changes table by_parent has key label handed
    pub after : kept_after kept key ≡ last_changes table by_parent has key label behind
    pub own : kept_own kept key ≡ own_in has key label handed

  -- and of each node of trees
  abbrev pub HasTrees : Bool → Handed → Forest (Keyed StyledNode) → Type 0
  HasTrees boxed handed Empty = Unit {0}
  HasTrees boxed handed (Tree n c r) =
      let has : Bool = is_boxed boxed n.label in
      let first : Handed = within table by_parent has n.key n.label handed in
      let behind : Handed = past_trees table by_parent has first c in
      HasNode has n.key n.label handed behind × HasTrees has first c × HasTrees boxed (past_node table by_parent has n.key n.label handed behind) r

  -- it has nothing of texts
  abbrev pub LacksTexts : Forest (Keyed StyledNode) → Type 0
  LacksTexts Empty = Unit {0}
  LacksTexts (Tree n c r) = (is_element n.label ≡ false → kept n.key ≡ None) × LacksTexts c × LacksTexts r

  -- it has what is kept
  abbrev Counted : Option Surroundings → Forest (Keyed StyledNode) → Type 0
  Counted handed g = Holds kept (counting_in table handed g)

  abbrev IsHeld : ℕ × Counting → Type 0
  IsHeld entry = kept entry.0 ≡ Some entry.1

  abbrev before_in : Option Counting → List Change
  before_in o = option_map_or (λ (its : Counting). its.deeds.before_children) o []

  abbrev after_in : Option Counting → List Change
  after_in o = option_map_or (λ (its : Counting). its.deeds.after_children) o []

  abbrev counters_in : Option Counting → Option (List Counter)
  counters_in o = option_and_then (λ (its : Counting). its.own) o

  -- A text.

  text-node : (key : ℕ) (handed behind : Handed) → kept key ≡ None → HasNode false key Text handed behind
  text-node key handed behind none = record { before = ap before_in none; after = ap after_in none; own = ap counters_in none }

  -- In an element without a box.

  abbrev nothing : Counting
  nothing = record { own = None; deeds = record { before_children = []; after_children = [] } }

  unboxed-node : (key : ℕ) (element : Styled) (handed behind : Handed) → kept key ≡ Some nothing → HasNode false key (Element element) handed behind
  unboxed-node key element handed behind is = record { before = ap before_in is; after = ap after_in is; own = ap counters_in is }

  unboxed-tree : (key : ℕ) (label : StyledNode) (c r : Forest (Keyed StyledNode)) (handed : Handed) → Counted None (Tree (record { key = key; label = label }) c r)
      → LacksTexts (Tree (record { key = key; label = label }) c r) → (Counted None c → LacksTexts c → HasTrees false handed c) → (Counted None r → LacksTexts r → HasTrees false handed r)
      → HasTrees false handed (Tree (record { key = key; label = label }) c r)
  unboxed-tree key (Element element) c r handed h texts below beside =
      let own : List (ℕ × Counting) = (key, nothing) ∷ [] in
      let rest = all-right IsHeld (counting_in table None c) (own ++ counting_in table None r) h in (
        unboxed-node key element handed (past_trees table by_parent false handed c) (All-head IsHeld (key, nothing) [] (all-left IsHeld own (counting_in table None r) rest)),
        below (all-left IsHeld (counting_in table None c) (own ++ counting_in table None r) h) texts.1,
        beside (all-right IsHeld own (counting_in table None r) rest) texts.2,
      )
  unboxed-tree key Text c r handed h texts below beside = (
    text-node key handed (past_trees table by_parent false handed c) (texts.0 refl),
    below (all-left IsHeld (counting_in table None c) (counting_in table None r) h) texts.1,
    beside (all-right IsHeld (counting_in table None c) (counting_in table None r) h) texts.2,
  )

  unboxed-trees : (g : Forest (Keyed StyledNode)) (handed : Handed) → Counted None g → LacksTexts g → HasTrees false handed g
  unboxed-trees Empty handed h texts = tt
  unboxed-trees (Tree n c r) handed h texts = unboxed-tree n.key n.label c r handed h texts (unboxed-trees c handed) (unboxed-trees r handed)

  -- Elsewhere.

  module _ (key : ℕ) (element : Styled) (c r : Forest (Keyed StyledNode)) (handed : Handed) where
    abbrev around : Surroundings
    around = surroundings_of handed

    -- what is kept of it, by whether it has a box
    abbrev counting_if : Bool → Option Surroundings → Counting
    counting_if b x = record {
      own = own_set (said_in table b key (Element element) (handed_by around) (handed_by (unwrap_or x around)));
      deeds = record {
        before_children = first_changes table by_parent b key (Element element) (handed_by around);
        after_children = changes_in (said_in table b key (Element element) (handed_by around) (handed_by (unwrap_or x around))).after;
      };
    }

    abbrev behind_in : Bool → Option Surroundings
    behind_in b = past_all e (said.inner_if table key element c r handed b) c

    boxed-tree : (b : Bool)
        → All IsHeld (counting_in table (said.inner_if table key element c r handed b) c ++ (((key, counting_if b (behind_in b)) ∷ []) ++ counting_in table (said.next_with table key element c r handed b (behind_in b)) r))
        → LacksTexts c → LacksTexts r → ((inner : Handed) → Counted (Some (surroundings_of inner)) c → HasTrees true inner c) → ((next : Handed) → Counted (Some (surroundings_of next)) r → HasTrees true next r)
        → let first = within table by_parent b key (Element element) handed in
        let behind = said.behind_if table key element c r handed b in
        HasNode b key (Element element) handed behind × HasTrees b first c × HasTrees true (past_node table by_parent b key (Element element) handed behind) r
    boxed-tree true h texts_c texts_r below beside =
        let first = within table by_parent true key (Element element) handed in
        let behind = said.behind_if table key element c r handed true in
        let x = behind_in true in
        let inner = counting_in table (Some (surroundings_of first)) c in
        let own : List (ℕ × Counting) = (key, counting_if true x) ∷ [] in
        let later = counting_in table (said.next_with table key element c r handed true x) r in
        let children = λ (inner : Handed). (said.agrees table c inner).past in
        let rest = all-right IsHeld inner (own ++ later) h in
        let is = All-head IsHeld (key, counting_if true x) [] (all-left IsHeld own later rest) in
        let last = ap (λ y. changes_in (closing_of table by_parent key element (handed_by (unwrap_or y around))).after) (children first)
        ∙ ap (λ (closing : Closing). changes_in closing.after) (sym (closing_any table key element behind [])) in (
          record { before = ap before_in is; after = ap after_in is ∙ last; own = ap counters_in is },
          below first (all-left IsHeld inner (own ++ later) h),
          beside (past_node table by_parent true key (Element element) handed behind)
              (subst (λ y. Counted y r) (said.next-is table key element c r handed children true) (all-right IsHeld own later rest)),
        )
    boxed-tree false h texts_c texts_r below beside =
        let inner = counting_in table None c in
        let own : List (ℕ × Counting) = (key, nothing) ∷ [] in
        let later = counting_in table (Some around) r in
        let rest = all-right IsHeld inner (own ++ later) h in (
          unboxed-node key element handed (said.behind_if table key element c r handed false) (All-head IsHeld (key, nothing) [] (all-left IsHeld own later rest)),
          unboxed-trees c handed (all-left IsHeld inner (own ++ later) h) texts_c,
          beside handed (all-right IsHeld own later rest),
        )

  any-tree : (key : ℕ) (label : StyledNode) (c r : Forest (Keyed StyledNode)) (handed : Handed) → Counted (Some (surroundings_of handed)) (Tree (record { key = key; label = label }) c r)
      → LacksTexts (Tree (record { key = key; label = label }) c r)
      → ((inner : Handed) → Counted (Some (surroundings_of inner)) c → HasTrees true inner c) → ((next : Handed) → Counted (Some (surroundings_of next)) r → HasTrees true next r)
      → HasTrees true handed (Tree (record { key = key; label = label }) c r)
  any-tree key (Element element) c r handed h texts below beside = boxed-tree key element c r handed (generates_box element.style) h texts.1 texts.2 below beside
  any-tree key Text c r handed h texts below beside =
      let inner = counting_in table None c in
      let later = counting_in table (Some (surroundings_of handed)) r in (
        text-node key handed (past_trees table by_parent false handed c) (texts.0 refl),
        unboxed-trees c handed (all-left IsHeld inner later h) texts.1,
        beside handed (all-right IsHeld inner later h),
      )

  pub has-trees : (g : Forest (Keyed StyledNode)) (handed : Handed) → Counted (Some (surroundings_of handed)) g → LacksTexts g → HasTrees true handed g
  has-trees Empty handed h texts = tt
  has-trees (Tree n c r) handed h texts = any-tree n.key n.label c r handed h texts (λ inner below. has-trees c inner below texts.1) (λ next beside. has-trees r next beside texts.2)
