-- The boxes of a document, as a forest: CSS Display 3, 2.5, CSS Lists 3, 3 and 4.5, and CSS Pseudo-Elements 4, 4.
use Rattle.std.specs.Prelude.{ℕ, Bool, true, false, List, [], Option, find}
use Rattle.forest.specs.Forest.{Forest, Empty, Tree, labels}
use Rattle.forest.specs.Keys.{Keyed}
use Rattle.plain_types.specs.declared.box_id.BoxId.{BoxId}
use Rattle.plain_types.specs.declared.box_kind.BoxKind.{BoxKind}
use Rattle.plain_types.specs.declared.box_kind.BoxKind.TheVariants as kind
use Rattle.plain_types.specs.declared.content.Item.{Item}
use Rattle.plain_types.specs.declared.style.CounterOp.{CounterOp}
use Rattle.plain_types.specs.declared.style.ResetOp.{ResetOp}
use Rattle.plain_types.specs.declared.style.Style.{Style}
use Rattle.counter_sets.specs.Sets.{is_same_box}
use Rattle.box_eval.specs.declared.inputs.Start.{Start}
use Rattle.box_eval.specs.Boxes.{box_of, has_marker, has_pseudo_box, is_list_item}
use Rattle.box_eval.specs.Elements.{Styled, items_of}
use Rattle.box_eval.specs.Evaluation.{Element, StyledNode, is_boxed}

-- A box, and all that it does to counters: its properties, whether it is a list item's own box, the items of its
-- content, and the starts of the reversed counters of its element.
pub record DocumentBox : Type 0 where
  pub id : BoxId
  pub is_item : Bool
  pub resets : List ResetOp
  pub increments : List CounterOp
  pub assigns : List CounterOp
  pub items : List Item
  pub starts : List Start

-- an element's own box; its content is its children
abbrev pub own_box : ℕ → Styled → DocumentBox
own_box key element = record {
  id = box_of key kind.Element;
  is_item = is_list_item element.style.own.display;
  resets = element.style.own.resets;
  increments = element.style.own.increments;
  assigns = element.style.own.assigns;
  items = [];
  starts = element.starts;
}

-- CSS Lists 3, 3.1.1: a marker has no counter properties
abbrev pub marker_box : ℕ → Styled → DocumentBox
marker_box key element = record {
  id = box_of key kind.Marker;
  is_item = false;
  resets = [];
  increments = [];
  assigns = [];
  items = items_of element.style.marker.content;
  starts = element.starts;
}

-- a before or after box; it is no list item (our own)
abbrev pub pseudo_box : ℕ → Styled → BoxKind → Style → DocumentBox
pseudo_box key element kind style = record {
  id = box_of key kind;
  is_item = false;
  resets = style.resets;
  increments = style.increments;
  assigns = style.assigns;
  items = items_of style.content;
  starts = element.starts;
}

-- trees side by side, and more trees after them
abbrev pub beside : {L : Type 0} → Forest L → Forest L → Forest L
beside Empty more = more
beside (Tree label children after) more = Tree label children (beside after more)

-- a box without child boxes, where there is one
abbrev pub leaf : Bool → DocumentBox → Forest DocumentBox
leaf true box = Tree box Empty Empty
leaf false box = Empty

-- the child boxes of an element's box, where those of its children are these
abbrev pub child_boxes : ℕ → Styled → Forest DocumentBox → Forest DocumentBox
child_boxes key element inside =
    beside (leaf (has_marker element.style) (marker_box key element))
    (beside (leaf (has_pseudo_box element.style.before) (pseudo_box key element kind.Before element.style.before))
    (beside inside (leaf (has_pseudo_box element.style.after) (pseudo_box key element kind.After element.style.after))))

-- the box of a node with the boxes in it, where it has one
abbrev pub node_boxes : Bool → ℕ → StyledNode → Forest DocumentBox → Forest DocumentBox
node_boxes true key (Element element) inside = Tree (own_box key element) (child_boxes key element inside) Empty
node_boxes _ key label inside = Empty

-- the boxes of trees side by side, whose parent has a box or not
abbrev pub boxes_in : Bool → Forest (Keyed StyledNode) → Forest DocumentBox
boxes_in boxed Empty = Empty
boxes_in boxed (Tree node children after) =
    let has = is_boxed boxed node.label in
    beside (node_boxes has node.key node.label (boxes_in has children)) (boxes_in boxed after)

-- Those of a document. An element without a box does nothing to counters: CSS Lists 3, 4.5. That it is among no
-- siblings is our own.
abbrev pub document_boxes : Forest (Keyed StyledNode) → Forest DocumentBox
document_boxes document = boxes_in true document

-- a box of them, told by its element and kind
abbrev pub box_with : BoxId → Forest DocumentBox → Option DocumentBox
box_with id boxes = find (λ (box : DocumentBox). is_same_box box.id id) (labels boxes)
