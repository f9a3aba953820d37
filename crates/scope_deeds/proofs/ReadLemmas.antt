-- What is read by keys of trees, and of a row of siblings, is what is read of the document. Throughout, a is the box that creates the counter.
use Rattle.std.proofs.Common.{◌≡◌, ◌++◌, ℕ, Bool, true, false, cond, List, [], Option, refl, ap, ◌∙◌}
use Rattle.std.specs.Option.{option_map_or}
use Rattle.forest.specs.Forest.{Forest, Empty, Tree}
use Rattle.forest.specs.Keys.{Keyed}
use Rattle.plain_types.specs.declared.box_id.BoxId.{BoxId}
use Rattle.plain_types.specs.declared.counter.Counter.{Counter}
use Rattle.plain_types.specs.declared.counter_style.CounterStyle.{CounterStyle}
use Rattle.box_eval.specs.declared.change.Change.{Change}
use Rattle.box_eval.specs.Elements.{Handed, Styled, by_parent, own_counted}
use Rattle.box_eval.specs.Evaluation.{Element, StyledNode, Text, changes, first_changes, is_boxed, last_changes, past_node, past_trees, within}
use Rattle.scope_reading.specs.ScopeChanges.{has_it, row_changes}
use Rattle.scope_deeds.specs.Counting.{Counting}
use Rattle.scope_deeds.specs.KeptScopes.{kept_after, kept_before, kept_changes, kept_own, kept_row}
use Rattle.scope_deeds.proofs.KeptNodes.{HasNode, HasTrees}

module _ (table : List CounterStyle) (kept : ℕ → Option Counting) where
  pub changes-kept : (g : Forest (Keyed StyledNode)) (boxed : Bool) (handed : Handed) → HasTrees table kept boxed handed g → kept_changes kept g ≡ changes table by_parent boxed handed g
  changes-kept Empty boxed handed h = refl
  changes-kept (Tree n c r) boxed handed h =
      let has = is_boxed boxed n.label in
      let first = within table by_parent has n.key n.label handed in
      let behind = past_trees table by_parent has first c in
      let next = past_node table by_parent has n.key n.label handed behind in
      let below = changes-kept c has first h.1 in
      let beside = changes-kept r boxed next h.2 in
      λ i. h.0.before i ++ (below i ++ (h.0.after i ++ beside i))

  module _ (a : BoxId) (name : List ℕ) where
    abbrev pub RowIs : Bool → Handed → Forest (Keyed StyledNode) → Type 0
    RowIs boxed handed g = kept_row kept a name g ≡ row_changes a name table boxed handed g

    -- what is read of a sibling and behind it, where the counters of its own box are these
    abbrev row_by : ℕ → (c r : Forest (Keyed StyledNode)) → Option (List Counter) → List Change
    row_by key c r own =
        option_map_or (λ (own : List Counter). cond (has_it a name own) (kept_before kept key ++ (kept_changes kept c ++ (kept_after kept key ++ kept_row kept a name r))) []) own (kept_row kept a name r)

    row-if : (key : ℕ) (element : Styled) (c r : Forest (Keyed StyledNode)) (boxed : Bool) (handed : Handed) (b : Bool)
        → let first = within table by_parent b key (Element element) handed in
        let behind = past_trees table by_parent b first c in
        let next = past_node table by_parent b key (Element element) handed behind in
        HasNode table kept b key (Element element) handed behind → HasTrees table kept b first c → RowIs boxed next r
        → row_by key c r (kept_own kept key)
        ≡ cond b (cond (has_it a name (own_counted table by_parent key element handed).set)
        (first_changes table by_parent b key (Element element) handed ++ (changes table by_parent b first c ++ (last_changes table by_parent b key (Element element) behind ++ row_changes a name table boxed next r))) [])
        (row_changes a name table boxed handed r)
    row-if key element c r boxed handed true node below beside =
        let first = within table by_parent true key (Element element) handed in
        let inner = changes-kept c true first below in
        ap (row_by key c r) node.own
        ∙ (λ i. cond (has_it a name (own_counted table by_parent key element handed).set) (node.before i ++ (inner i ++ (node.after i ++ beside i))) [])
    row-if key element c r boxed handed false node below beside = ap (row_by key c r) node.own ∙ beside

    row-node : (key : ℕ) (label : StyledNode) (c r : Forest (Keyed StyledNode)) (boxed : Bool) (handed : Handed) → HasTrees table kept boxed handed (Tree (record { key = key; label = label }) c r)
        → ((next : Handed) → HasTrees table kept boxed next r → RowIs boxed next r) → RowIs boxed handed (Tree (record { key = key; label = label }) c r)
    row-node key (Element element) c r boxed handed h beside =
        let b = is_boxed boxed (Element element) in
        let behind = past_trees table by_parent b (within table by_parent b key (Element element) handed) c in
        row-if key element c r boxed handed b h.0 h.1 (beside (past_node table by_parent b key (Element element) handed behind) h.2)
    row-node key Text c r boxed handed h beside = ap (row_by key c r) h.0.own ∙ beside handed h.2

    pub row-kept : (g : Forest (Keyed StyledNode)) (boxed : Bool) (handed : Handed) → HasTrees table kept boxed handed g → RowIs boxed handed g
    row-kept Empty boxed handed h = refl
    row-kept (Tree n c r) boxed handed h = row-node n.key n.label c r boxed handed h (λ next beside. row-kept r boxed next beside)
