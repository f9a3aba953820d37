-- The evaluation of an element's boxes: CSS Lists 3, 3.2 and 4.4, and CSS Generated Content 3, 1 and 2.
use Rattle.std.specs.Prelude.{ℕ, ℤ, Bool, false, pos, List, [], ◌∷◌, Option, Some, None, cond, unwrap_or}
use Rattle.std.specs.Option.{option_map_or}
use Rattle.plain_types.specs.declared.attr.Attr.{Attr}
use Rattle.plain_types.specs.declared.box_id.BoxId.{BoxId}
use Rattle.plain_types.specs.declared.box_kind.BoxKind.{BoxKind}
use Rattle.plain_types.specs.declared.box_kind.BoxKind.TheVariants as kind
use Rattle.plain_types.specs.declared.content.Content.{Content}
use Rattle.plain_types.specs.declared.content.Content.TheVariants as content
use Rattle.plain_types.specs.declared.content.Item.{Item}
use Rattle.plain_types.specs.declared.counter.Counter.{Counter}
use Rattle.plain_types.specs.declared.counter_style.CounterStyle.{CounterStyle}
use Rattle.plain_types.specs.declared.style.ElementStyle.{ElementStyle}
use Rattle.plain_types.specs.declared.style.ListType.{ListType}
use Rattle.plain_types.specs.declared.style.ListType.TheVariants as list_type
use Rattle.plain_types.specs.declared.style.Style.{Style}
use Rattle.css_definitions.specs.Representation.{marker_text}
use Rattle.counter_sets.specs.Sets.{inherited, innermost, is_by_peer, is_missing_in}
use Rattle.content_eval.specs.Contents.{generated}
use Rattle.content_eval.specs.declared.generated.Generated.{Generated}
use Rattle.content_eval.specs.declared.generated.Piece.TheVariants as piece
use Rattle.box_eval.specs.declared.change.Change.{Change}
use Rattle.box_eval.specs.declared.counting.Counted.{Counted}
use Rattle.box_eval.specs.declared.entry.Closing.{Closing}
use Rattle.box_eval.specs.declared.entry.Entry.{Entry}
use Rattle.box_eval.specs.declared.formed.Formed.{Formed}
use Rattle.box_eval.specs.declared.inputs.Inputs.{Inputs}
use Rattle.box_eval.specs.declared.inputs.Start.{Start}
use Rattle.box_eval.specs.declared.made.Made.{Made}
use Rattle.box_eval.specs.Boxes.{box_of, has_items, has_marker, has_pseudo_box, is_list_item}
use Rattle.box_eval.specs.Properties.{counted, list_item}

-- What is handed from box to box.

-- What a box is handed: the counters of its parent box, its sibling boxes before it (the nearest first),
-- the counters of the nearest of them, those of the box before it in tree order, and the quote depth.
pub record Handed : Type 0 where
  pub parent : List Counter
  pub earlier : List BoxId
  pub sibling : Option (List Counter)
  pub preceding : Option (List Counter)
  pub depth : ℕ

-- the root's box has no box around it or before it
abbrev pub at_root : Handed
at_root = record { parent = []; earlier = []; sibling = None; preceding = None; depth = 0 }

-- what the first child box of a box with these counters is handed
abbrev pub inside : List Counter → ℕ → Handed
inside own depth = record { parent = own; earlier = []; sibling = None; preceding = Some own; depth = depth }

-- what the next sibling box is handed after a box with these counters; the last box in it has the
-- counters `exit`
abbrev pub past : BoxId → List Counter → List Counter → ℕ → Handed → Handed
past box own exit depth handed =
    record { parent = handed.parent; earlier = box ∷ handed.earlier; sibling = Some own; preceding = Some exit; depth = depth }

-- 4.4.1: the counters that a box inherits
abbrev pub inherited_by : Handed → List Counter
inherited_by handed = inherited handed.parent handed.sibling handed.preceding

-- 4.4: which counters a new one of their name takes the place of, in a box with these peers (itself and its
-- sibling boxes before it) whose parent box has these counters
abbrev pub Replacing : Type 0
Replacing = List BoxId → List Counter → Counter → Bool

-- those that a peer created
abbrev pub by_peers : Replacing
by_peers peers parent = is_by_peer peers

-- those that the parent box lacks; in every document these are the same
abbrev pub by_parent : Replacing
by_parent peers parent = is_missing_in parent

-- An element as it is evaluated: its attributes, its styles, and the starts of its boxes' reversed counters.
pub record Styled : Type 0 where
  pub attrs : List Attr
  pub style : ElementStyle
  pub starts : List Start

-- the items of a list, none where there is no list
abbrev pub items_of : Content → List Item
items_of content.Normal = []
items_of content.Nothing = []
items_of (content.Items items) = items

-- what is formed of a pseudo-element: a box of this content, whose properties did this to counters, or none
abbrev pub formed_box : List Change → Generated → Formed
formed_box changes content =
    record { made = Some (record { set = content.set; pieces = content.pieces; changes = changes }); depth = content.depth }

abbrev pub no_box : ℕ → Formed
no_box depth = record { made = None; depth = depth }

-- what the next sibling box is handed behind it
abbrev pub past_formed : BoxId → Formed → Handed → Handed
past_formed box formed handed =
    option_map_or (λ (made : Made). past box made.set made.set formed.depth handed) formed.made (record handed { depth = formed.depth })

-- the number of a list item. It has a counter `list-item`, so the 0 is never read.
abbrev pub item_number : List Counter → ℤ
item_number set = option_map_or (λ (counter : Counter). counter.value) (innermost set list_item) (pos 0)

-- CSS Lists 3, 3.2: the text of a marker that has no items of its own
abbrev pub default_text : List CounterStyle → ListType → List Counter → List ℕ
default_text table (list_type.Chars text) set = text
default_text table (list_type.Style style) set = marker_text table style (item_number set)

abbrev pub default_content : List CounterStyle → ListType → List Counter → ℕ → Generated
default_content table type set depth = record { pieces = piece.Chars (default_text table type set) ∷ []; set = set; depth = depth }

module _ (table : List CounterStyle) (replacing : Replacing) (key : ℕ) (element : Styled) where
  -- which counters a new one replaces in a box of the element
  abbrev pub is_replaced_in : BoxKind → Handed → Counter → Bool
  is_replaced_in kind handed = replacing (box_of key kind ∷ handed.earlier) handed.parent

  -- the text of a box whose counters after its properties are these
  abbrev pub content_of : BoxKind → Style → List Counter → Handed → Generated
  content_of kind style set handed =
      generated table (items_of style.content) element.attrs style.quotes (box_of key kind) (is_replaced_in kind handed) set handed.depth

  -- The element's own box.

  abbrev pub own_counted : Handed → Counted
  own_counted handed =
      counted (is_replaced_in kind.Element handed) (box_of key kind.Element) element.starts
      (is_list_item element.style.own.display) element.style.own (inherited_by handed)

  -- Its marker. It has no counter properties: CSS Lists 3, 3.1.1.

  abbrev pub marker_content : Handed → Generated
  marker_content handed =
      cond (has_items element.style.marker.content)
      (content_of kind.Marker element.style.marker (inherited_by handed) handed)
      (default_content table element.style.own.list_type (inherited_by handed) handed.depth)

  abbrev pub marker_formed : Handed → Formed
  marker_formed handed = cond (has_marker element.style) (formed_box [] (marker_content handed)) (no_box handed.depth)

  -- Its before and after boxes. They are no list items (our own).

  abbrev pub pseudo_counted : BoxKind → Style → Handed → Counted
  pseudo_counted kind style handed = counted (is_replaced_in kind handed) (box_of key kind) element.starts false style (inherited_by handed)

  abbrev pub pseudo_formed : BoxKind → Style → Handed → Formed
  pseudo_formed kind style handed =
      let counted = pseudo_counted kind style handed in
      cond (has_pseudo_box style) (formed_box counted.changes (content_of kind style counted.set handed)) (no_box handed.depth)

  -- The whole element, but for its children.

  -- its marker, where it is handed this, and what its before box is handed
  abbrev pub marker_of : Handed → Formed
  marker_of handed = marker_formed (inside (own_counted handed).set handed.depth)

  abbrev pub behind_marker : Handed → Handed
  behind_marker handed = past_formed (box_of key kind.Marker) (marker_of handed) (inside (own_counted handed).set handed.depth)

  -- its before box, and what its children are handed
  abbrev pub before_of : Handed → Formed
  before_of handed = pseudo_formed kind.Before element.style.before (behind_marker handed)

  abbrev pub children_handed : Handed → Handed
  children_handed handed = past_formed (box_of key kind.Before) (before_of handed) (behind_marker handed)

  -- the element up to its children
  abbrev pub entry_of : Handed → Entry
  entry_of handed = record {
    own = (own_counted handed).set;
    changes = (own_counted handed).changes;
    marker = (marker_of handed).made;
    before = (before_of handed).made;
    depth = (before_of handed).depth;
  }

  -- its after box, where this is handed on behind its children
  abbrev pub after_of : Handed → Formed
  after_of handed = pseudo_formed kind.After element.style.after handed

  -- the element from its children on; it is left with the counters of its last box in tree order, and there is
  -- one, since its own box comes before its children
  abbrev pub closing_of : Handed → Closing
  closing_of handed = record {
    after = (after_of handed).made;
    exit = unwrap_or (past_formed (box_of key kind.After) (after_of handed) handed).preceding [];
    depth = (after_of handed).depth;
  }

abbrev pub styled_by : Inputs → List Attr → ElementStyle → Styled
styled_by inputs attrs style = record { attrs = attrs; style = style; starts = inputs.starts }

-- what inputs hand on, where these are the sibling boxes before: to an element, or behind its children
abbrev pub handed_in : Inputs → List BoxId → Handed
handed_in inputs earlier =
    record { parent = inputs.parent; earlier = earlier; sibling = inputs.sibling; preceding = inputs.preceding; depth = inputs.depth }
