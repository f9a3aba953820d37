-- What is handed on behind the children of an element has its own set as the set of their parent.
use Rattle.std.proofs.Common.{◌≡◌, ℕ, Bool, true, false, List, Option, Some, None, refl, ◌∙◌}
use Rattle.std.specs.Option.{option_map_or}
use Rattle.forest.specs.Forest.{Forest, Empty, Tree}
use Rattle.forest.specs.Keys.{Keyed}
use Rattle.plain_types.specs.declared.box_id.BoxId.{BoxId}
use Rattle.plain_types.specs.declared.box_kind.BoxKind.TheVariants as kind
use Rattle.plain_types.specs.declared.counter_style.CounterStyle.{CounterStyle}
use Rattle.box_eval.specs.declared.formed.Formed.{Formed}
use Rattle.box_eval.specs.declared.made.Made.{Made}
use Rattle.box_eval.specs.Boxes.{box_of}
use Rattle.box_eval.specs.Elements.{Handed, before_of, behind_marker, by_parent, children_handed, inside, marker_of, own_counted, past, past_formed}
use Rattle.box_eval.specs.Evaluation.{Element, StyledNode, Text, is_boxed, past_node, past_trees, within}
use Rattle.scope_reading.specs.Laws.{OwnSetsAreBehindChildren}

formed-parent : (box : BoxId) (formed : Formed) (handed : Handed) → (past_formed box formed handed).parent ≡ handed.parent
formed-parent box formed handed = by formed.made
  where
    by : (o : Option Made) → (option_map_or (λ (made : Made). past box made.set made.set formed.depth handed) o (record handed { depth = formed.depth })).parent ≡ handed.parent
    by None = refl
    by (Some made) = refl

module _ (table : List CounterStyle) where
  node-parent : (has : Bool) (key : ℕ) (label : StyledNode) (handed behind : Handed) → (past_node table by_parent has key label handed behind).parent ≡ handed.parent
  node-parent true key (Element element) handed behind = refl
  node-parent true key Text handed behind = refl
  node-parent false key (Element element) handed behind = refl
  node-parent false key Text handed behind = refl

  trees-parent : (g : Forest (Keyed StyledNode)) (boxed : Bool) (handed : Handed) → (past_trees table by_parent boxed handed g).parent ≡ handed.parent
  trees-parent Empty boxed handed = refl
  trees-parent (Tree n c r) boxed handed =
      let has = is_boxed boxed n.label in
      let behind = past_trees table by_parent has (within table by_parent has n.key n.label handed) c in
      trees-parent r boxed (past_node table by_parent has n.key n.label handed behind) ∙ node-parent has n.key n.label handed behind

pub own_sets_are_behind_children : OwnSetsAreBehindChildren
own_sets_are_behind_children table key element handed children =
    trees-parent table children true (children_handed table by_parent key element handed)
    ∙ formed-parent (box_of key kind.Before) (before_of table by_parent key element handed) (behind_marker table by_parent key element handed)
    ∙ formed-parent (box_of key kind.Marker) (marker_of table by_parent key element handed) (inside (own_counted table by_parent key element handed).set handed.depth)
