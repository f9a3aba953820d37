-- What the code makes of an element is what the evaluator hands on.
use Rattle.std.proofs.Common.{◌≡◌, ℕ, [], true, false, List, Option, Some, None, refl, sym, ap, ◌∙◌}
use Rattle.std.specs.Prelude.{if◌then◌else◌, unwrap_or}
use Rattle.forest.specs.Keys.{Keyed}
use Rattle.plain_types.specs.declared.box_kind.BoxKind.TheVariants as kind
use Rattle.plain_types.specs.declared.counter.Counter.{Counter}
use Rattle.plain_types.specs.declared.counter_style.CounterStyle.{CounterStyle}
use Rattle.box_eval.specs.declared.made.Made.{Made}
use Rattle.box_eval.specs.Boxes.{box_of, generates_box}
use Rattle.box_eval.specs.Elements.{Handed, Styled, before_of, by_parent, children_handed, closing_of, entry_of, inside, marker_of, own_counted, past_formed}
use Rattle.box_eval.specs.Evaluation.{Element, StyledNode, past_node, record_of, within, without_box}
use Rattle.box_eval.specs.Starts.{has_starts, node_asks_for_start}
use Rattle.surroundings.specs.declared.surroundings.Surroundings.{Surroundings}
use Rattle.surroundings.specs.Surroundings.{handed_behind, handed_by, handed_inside, surroundings_of}
use Rattle.surroundings.specs.StyledEvaluators.{asks_of, inside_node, past_styled, said_of}

-- what an element's last box before its children hands on
abbrev inside_with : List Counter → Option Made → Option Made → ℕ → Surroundings
inside_with own marker before depth = handed_inside (record { own = own; changes = []; marker = marker; before = before; depth = depth })

inside-made : (key : ℕ) (own : List Counter) (depth : ℕ) (marker before : Option Made) (marker_depth before_depth : ℕ)
    → inside_with own marker before before_depth
    ≡ surroundings_of (past_formed (box_of key kind.Before) (record { made = before; depth = before_depth }) (past_formed (box_of key kind.Marker) (record { made = marker; depth = marker_depth }) (inside own depth)))
inside-made key own depth None None marker_depth before_depth = refl
inside-made key own depth None (Some before) marker_depth before_depth = refl
inside-made key own depth (Some marker) None marker_depth before_depth = refl
inside-made key own depth (Some marker) (Some before) marker_depth before_depth = refl

module _ (table : List CounterStyle) (key : ℕ) (element : Styled) where
  abbrev node : Keyed StyledNode
  node = record { key = key; label = Element element }

  -- what its children are handed
  pub inside-entry : (handed : Handed) → handed_inside (entry_of table by_parent key element handed) ≡ surroundings_of (children_handed table by_parent key element handed)
  inside-entry handed =
      let marker = marker_of table by_parent key element handed in
      let before = before_of table by_parent key element handed in
      inside-made key (own_counted table by_parent key element handed).set handed.depth marker.made before.made marker.depth before.depth

  -- One with a box.
  module _ (has : generates_box element.style ≡ true) where
    pub inside-boxed : (around : Surroundings) → inside_node table node (Some around) ≡ Some (handed_inside (entry_of table by_parent key element (handed_by around)))
    inside-boxed around =
        ap (λ b. if b then Some (surroundings_of (within table by_parent true key (Element element) (handed_by around))) else None) has
        ∙ ap Some (sym (inside-entry (handed_by around)))

    pub past-boxed : (around behind : Surroundings)
        → past_styled table node (Some around) (Some behind)
        ≡ Some (handed_behind around.parent (entry_of table by_parent key element (handed_by around)).own (closing_of table by_parent key element (handed_by behind)))
    past-boxed around behind = ap (λ b. Some (surroundings_of (past_node table by_parent b key (Element element) (handed_by around) (handed_by behind)))) has

    pub said-boxed : (around behind : Surroundings) → said_of table node (Some around) (Some behind) ≡ record_of table by_parent true key element (handed_by around) (handed_by behind)
    said-boxed around behind = ap (λ b. record_of table by_parent b key element (handed_by around) (handed_by behind)) has

    pub asks-boxed : (around : Surroundings) → asks_of node (Some around) ≡ has_starts element.starts
    asks-boxed around = ap (λ b. node_asks_for_start b (Element element)) has

  -- One without.
  module _ (none : generates_box element.style ≡ false) where
    pub inside-unboxed : (handed : Option Surroundings) → inside_node table node handed ≡ None
    inside-unboxed None = refl
    inside-unboxed (Some around) = ap (λ b. if b then Some (surroundings_of (within table by_parent true key (Element element) (handed_by around))) else None) none

    pub past-unboxed : (handed behind : Option Surroundings) → past_styled table node handed behind ≡ handed
    past-unboxed None behind = refl
    past-unboxed (Some around) behind = ap (λ b. Some (surroundings_of (past_node table by_parent b key (Element element) (handed_by around) (handed_by (unwrap_or behind around))))) none

    pub said-unboxed : (handed behind : Option Surroundings) → said_of table node handed behind ≡ without_box
    said-unboxed None behind = refl
    said-unboxed (Some around) behind = ap (λ b. record_of table by_parent b key element (handed_by around) (handed_by (unwrap_or behind around))) none

    pub asks-unboxed : (handed : Option Surroundings) → asks_of node handed ≡ false
    asks-unboxed None = refl
    asks-unboxed (Some around) = ap (λ b. node_asks_for_start b (Element element)) none
