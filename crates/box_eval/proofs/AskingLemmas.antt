-- Where no box asks for a start, starts do not matter.
use Rattle.std.proofs.Common.{◌≡◌, ◌++◌, ◌∷◌, ◌&&◌, ◌||◌, ℕ, ℤ, List, [], Bool, true, false, cond, Option, Some, refl, ap, ◌∙◌, map, filter}
use Rattle.std.proofs.lemmas.Bool.{or_parts, true≢false}
use Rattle.std.specs.Prelude.{is_some, not}
use Rattle.forest.specs.Forest.{Forest, Empty, Tree}
use Rattle.forest.specs.Keys.{Keyed}
use Rattle.plain_types.specs.declared.box_id.BoxId.{BoxId}
use Rattle.plain_types.specs.declared.box_kind.BoxKind.TheVariants as kind
use Rattle.plain_types.specs.declared.counter_style.CounterStyle.{CounterStyle}
use Rattle.plain_types.specs.declared.node.Node.{Node}
use Rattle.plain_types.specs.declared.node.Node.TheVariants as node
use Rattle.plain_types.specs.declared.style.ElementStyle.{ElementStyle}
use Rattle.plain_types.specs.declared.style.ResetOp.{ResetOp}
use Rattle.plain_types.specs.declared.style.Style.{Style}
use Rattle.box_eval.specs.declared.element_record.ElementRecord.{ElementRecord}
use Rattle.box_eval.specs.declared.inputs.Start.{Start}
use Rattle.box_eval.specs.Boxes.{box_of, generates_box, has_pseudo_box}
use Rattle.box_eval.specs.Elements.{Handed, Styled, by_peers}
use Rattle.box_eval.specs.Evaluation.{Element, StyledNode, Text, box_starts, element_starts, past_node, past_trees, records, records_of, styled_trees, within}
use Rattle.box_eval.specs.Properties.{last_resets}
use Rattle.box_eval.specs.Starts.{any_asks_for_start, has_starts, no_starts, node_asks_for_start}
use Rattle.box_eval.proofs.DocumentLemmas.{join_two}

-- An element that asks for no start has none, whatever the starts are.

none_mapped : {A : Type 0} (f g : A → Start) (items : List A) → has_starts (map g items) ≡ false → map f items ≡ map g items
none_mapped f g [] none = refl
none_mapped f g (item ∷ items) none = absurd (true≢false none)

starts_parts : (starts others : List Start) → has_starts (starts ++ others) ≡ false → (has_starts starts ≡ false) × (has_starts others ≡ false)
starts_parts [] others none = (refl, none)
starts_parts (start ∷ starts) others none = absurd (true≢false none)

same_if : (b : Bool) (starts others : List Start) → (has_starts others ≡ false → starts ≡ others) → has_starts (cond b others []) ≡ false → cond b starts [] ≡ cond b others []
same_if true starts others same none = same none
same_if false starts others same none = refl

module _ (start : BoxId → List ℕ → ℤ) where
  same_box : (creator : BoxId) (style : Style) → has_starts (box_starts no_starts creator style) ≡ false → box_starts start creator style ≡ box_starts no_starts creator style
  same_box creator style none =
      none_mapped (λ (reset : ResetOp). record { creator = creator; name = reset.name; value = start creator reset.name })
      (λ (reset : ResetOp). record { creator = creator; name = reset.name; value = no_starts creator reset.name })
      (filter (λ (reset : ResetOp). reset.reversed && not (is_some reset.value)) (last_resets style.resets)) none

  module _ (key : ℕ) (style : ElementStyle) where
    abbrev pseudo_starts : (BoxId → List ℕ → ℤ) → List Start
    pseudo_starts start =
        cond (has_pseudo_box style.before) (box_starts start (box_of key kind.Before) style.before) []
        ++ cond (has_pseudo_box style.after) (box_starts start (box_of key kind.After) style.after) []

    same_pseudo : has_starts (pseudo_starts no_starts) ≡ false → pseudo_starts start ≡ pseudo_starts no_starts
    same_pseudo none =
        let before = box_starts no_starts (box_of key kind.Before) style.before in
        let after = box_starts no_starts (box_of key kind.After) style.after in
        let each = starts_parts (cond (has_pseudo_box style.before) before []) (cond (has_pseudo_box style.after) after []) none in
        join_two _ _ _ _ (same_if (has_pseudo_box style.before) _ before (same_box (box_of key kind.Before) style.before) each.0)
        (same_if (has_pseudo_box style.after) _ after (same_box (box_of key kind.After) style.after) each.1)

    pub same_starts : has_starts (element_starts no_starts key style) ≡ false → element_starts start key style ≡ element_starts no_starts key style
    same_starts none =
        same_if (generates_box style) (box_starts start (box_of key kind.Element) style.own ++ pseudo_starts start) (box_starts no_starts (box_of key kind.Element) style.own ++ pseudo_starts no_starts)
        (λ none.
        let each = starts_parts (box_starts no_starts (box_of key kind.Element) style.own) (pseudo_starts no_starts) none in
        join_two _ _ _ _ (same_box (box_of key kind.Element) style.own each.0) (same_pseudo each.1)) none

-- Trees that are the same but for starts for which none of them asks.

module _ (table : List CounterStyle) where
  pub record AreSame (boxed : Bool) (handed : Handed) (trees others : Forest (Keyed StyledNode)) : Type 0 where
    pub records : records table by_peers boxed handed trees ≡ records table by_peers boxed handed others
    pub past : past_trees table by_peers boxed handed trees ≡ past_trees table by_peers boxed handed others

  -- A node, of which this is handed on behind its children, which have a box around them or not. Both stand for its
  -- tree: with the children and those behind it, and with the others.
  module _ (boxed : Bool) (handed : Handed) (key : ℕ) (children children_too after after_too : Forest (Keyed StyledNode)) where
    abbrev all_records : Bool → StyledNode → Forest (Keyed StyledNode) → Forest (Keyed StyledNode) → List (ℕ × ElementRecord)
    all_records has label children after =
        records table by_peers has (within table by_peers has key label handed) children
        ++ (records_of table by_peers has key label handed (past_trees table by_peers has (within table by_peers has key label handed) children)
        ++ records table by_peers boxed (past_node table by_peers has key label handed (past_trees table by_peers has (within table by_peers has key label handed) children)) after)

    abbrev all_past : Bool → StyledNode → Forest (Keyed StyledNode) → Forest (Keyed StyledNode) → Handed
    all_past has label children after =
        past_trees table by_peers boxed (past_node table by_peers has key label handed (past_trees table by_peers has (within table by_peers has key label handed) children)) after

    module _ (has : Bool) (label : StyledNode) (below : AreSame has (within table by_peers has key label handed) children children_too)
        (beside : (handed : Handed) → AreSame boxed handed after after_too) where
      same_records : all_records has label children after ≡ all_records has label children_too after_too
      same_records =
          let first = within table by_peers has key label handed in
          let behind = past_trees table by_peers has first children in
          let behind_too = past_trees table by_peers has first children_too in
          ap (λ all. all ++ (records_of table by_peers has key label handed behind ++ records table by_peers boxed (past_node table by_peers has key label handed behind) after)) below.records
          ∙ ap (λ behind. records table by_peers has first children_too ++ (records_of table by_peers has key label handed behind ++ records table by_peers boxed (past_node table by_peers has key label handed behind) after)) below.past
          ∙ ap (λ all. records table by_peers has first children_too ++ (records_of table by_peers has key label handed behind_too ++ all)) (beside (past_node table by_peers has key label handed behind_too)).records

      same_past : all_past has label children after ≡ all_past has label children_too after_too
      same_past =
          let behind_too = past_trees table by_peers has (within table by_peers has key label handed) children_too in
          ap (λ behind. past_trees table by_peers boxed (past_node table by_peers has key label handed behind) after) below.past
          ∙ (beside (past_node table by_peers has key label handed behind_too)).past

    -- an element that asks for no start, or has no box
    module _ (one other : Styled) (same : has_starts other.starts ≡ false → one ≡ other) (beside : (handed : Handed) → AreSame boxed handed after after_too) where
      pub record IsSameTree (has : Bool) : Type 0 where
        pub records : all_records has (Element one) children after ≡ all_records has (Element other) children_too after_too
        pub past : all_past has (Element one) children after ≡ all_past has (Element other) children_too after_too

      same_element : (has : Bool) → node_asks_for_start has (Element other) ≡ false → ((handed : Handed) → AreSame has handed children children_too) → IsSameTree has
      same_element true none below =
          let is : one ≡ other = same none in
          let here = below (within table by_peers true key (Element other) handed) in
          record {
            records = ap (λ one. all_records true (Element one) children after) is ∙ same_records true (Element other) here beside;
            past = ap (λ one. all_past true (Element one) children after) is ∙ same_past true (Element other) here beside;
          }
      same_element false none below =
          let here = below handed in
          record {
            records = same_records false (Element other) here beside;
            past = same_past false (Element other) here beside;
          }

module _ (table : List CounterStyle) (style : ℕ → Option Style → ElementStyle) (start : BoxId → List ℕ → ℤ) where
  abbrev AreTreesSame : Option Style → Forest (Keyed Node) → Bool → Handed → Type 0
  AreTreesSame parent nodes boxed handed = AreSame table boxed handed (styled_trees style start parent nodes) (styled_trees style no_starts parent nodes)

  pub same_trees : (nodes : Forest (Keyed Node)) (parent : Option Style) (boxed : Bool) (handed : Handed) → any_asks_for_start boxed (styled_trees style no_starts parent nodes) ≡ false → AreTreesSame parent nodes boxed handed
  same_trees Empty parent boxed handed none = record { records = refl; past = refl }
  same_trees (Tree first children after) parent boxed handed none =
      same_tree first.key first.label children after parent boxed handed none (same_trees children) (same_trees after parent)
    where
      same_tree : (key : ℕ) (label : Node) (children after : Forest (Keyed Node)) (parent : Option Style) (boxed : Bool) (handed : Handed)
          → any_asks_for_start boxed (styled_trees style no_starts parent (Tree (record { key = key; label = label }) children after)) ≡ false
          → ((own : Option Style) (boxed : Bool) (handed : Handed) → any_asks_for_start boxed (styled_trees style no_starts own children) ≡ false → AreTreesSame own children boxed handed)
          → ((boxed : Bool) (handed : Handed) → any_asks_for_start boxed (styled_trees style no_starts parent after) ≡ false → AreTreesSame parent after boxed handed)
          → AreTreesSame parent (Tree (record { key = key; label = label }) children after) boxed handed
      same_tree key (node.Text characters) children after parent boxed handed none below beside =
          let each = or_parts (any_asks_for_start false (styled_trees style no_starts parent children)) (any_asks_for_start boxed (styled_trees style no_starts parent after)) none in
          let rest : (handed : Handed) → AreTreesSame parent after boxed handed = λ handed. beside boxed handed each.1 in
          let here = below parent false handed each.0 in
          record {
            records = same_records table boxed handed key _ _ _ _ false Text here rest;
            past = same_past table boxed handed key _ _ _ _ false Text here rest;
          }
      same_tree key (node.Element name attrs) children after parent boxed handed none below beside =
          let styles = style key parent in
          let has = boxed && generates_box styles in
          let one : Styled = record { attrs = attrs; style = styles; starts = element_starts start key styles } in
          let other : Styled = record { attrs = attrs; style = styles; starts = element_starts no_starts key styles } in
          let own = or_parts (node_asks_for_start has (Element other)) (any_asks_for_start has (styled_trees style no_starts (Some styles.own) children) || any_asks_for_start boxed (styled_trees style no_starts parent after)) none in
          let each = or_parts (any_asks_for_start has (styled_trees style no_starts (Some styles.own) children)) (any_asks_for_start boxed (styled_trees style no_starts parent after)) own.1 in
          let rest : (handed : Handed) → AreTreesSame parent after boxed handed = λ handed. beside boxed handed each.1 in
          let same : has_starts other.starts ≡ false → one ≡ other = λ none. ap (λ starts. record { attrs = attrs; style = styles; starts = starts }) (same_starts start key styles none) in
          let all = same_element table boxed handed key (styled_trees style start (Some styles.own) children) (styled_trees style no_starts (Some styles.own) children) (styled_trees style start parent after) (styled_trees style no_starts parent after)
          one other same rest has own.0 (λ handed. below (Some styles.own) has handed each.0) in
          record { records = all.records; past = all.past }
