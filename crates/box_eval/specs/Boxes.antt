-- Which boxes an element has: CSS Display 3, 2.5, CSS Lists 3, 3, and CSS Pseudo-Elements 4, 4.
use Rattle.std.specs.Prelude.{ℕ, Bool, true, false, not, ◌&&◌}
use Rattle.plain_types.specs.declared.box_id.BoxId.{BoxId}
use Rattle.plain_types.specs.declared.box_kind.BoxKind.{BoxKind}
use Rattle.plain_types.specs.declared.content.Content.{Content}
use Rattle.plain_types.specs.declared.content.Content.TheVariants as content
use Rattle.plain_types.specs.declared.style.Display.{Display}
use Rattle.plain_types.specs.declared.style.Display.TheVariants as display
use Rattle.plain_types.specs.declared.style.ElementStyle.{ElementStyle}
use Rattle.plain_types.specs.declared.style.ListType.{ListType}
use Rattle.plain_types.specs.declared.style.ListType.TheVariants as list_type
use Rattle.plain_types.specs.declared.style.Style.{Style}
use Rattle.plain_types.specs.declared.style_ref.StyleRef.TheVariants as style_ref

-- a box of the element of this key
abbrev pub box_of : ℕ → BoxKind → BoxId
box_of key kind = record { key = key; kind = kind }

-- `display: none`
abbrev pub is_absent : Display → Bool
is_absent display.Absent = true
is_absent display.ListItem = false
is_absent display.Plain = false

-- `display: list-item`
abbrev pub is_list_item : Display → Bool
is_list_item display.Absent = false
is_list_item display.ListItem = true
is_list_item display.Plain = false

-- `content` is a list of items
abbrev pub has_items : Content → Bool
has_items content.Normal = false
has_items content.Nothing = false
has_items (content.Items items) = true

-- `list-style-type: none`
abbrev pub is_unmarked : ListType → Bool
is_unmarked (list_type.Style style_ref.Nothing) = true
is_unmarked _ = false

-- CSS Lists 3, 3: a marker has its items, or what `list-style-type` gives where its `content` is `normal`
abbrev pub marks : Content → ListType → Bool
marks content.Normal type = not (is_unmarked type)
marks content.Nothing type = false
marks (content.Items items) type = true

-- an element of this style generates a box, where it is the root or its parent has one
abbrev pub generates_box : ElementStyle → Bool
generates_box style = not (is_absent style.own.display)

-- such an element has a marker; list items alone have one (our own)
abbrev pub has_marker : ElementStyle → Bool
has_marker style = is_list_item style.own.display && marks style.marker.content style.own.list_type

-- `::before` or `::after` of such an element has a box, where this is its own style; `list-item` counts there
-- as any other box (our own)
abbrev pub has_pseudo_box : Style → Bool
has_pseudo_box style = has_items style.content && not (is_absent style.display)
