-- The pieces that content items give: CSS Generated Content 3, 2, 2.6 and 3, and CSS Lists 3, 4.7.
use Rattle.std.specs.Prelude.{ℕ, Bool, List, [], ◌∷◌, filter, find, fold, unwrap_or}
use Rattle.std.specs.List.{join_by}
use Rattle.std.specs.Option.{option_map_or}
use Rattle.std.specs.Str.{bytes_eq}
use Rattle.plain_types.specs.Attributes.{value_of}
use Rattle.plain_types.specs.declared.attr.Attr.{Attr}
use Rattle.plain_types.specs.declared.box_id.BoxId.{BoxId}
use Rattle.plain_types.specs.declared.content.Item.{Item}
use Rattle.plain_types.specs.declared.content.Item.TheVariants as item
use Rattle.plain_types.specs.declared.content.Url.{Url}
use Rattle.plain_types.specs.declared.content.Url.TheVariants.{Given, FromAttr}
use Rattle.plain_types.specs.declared.counter.Counter.{Counter}
use Rattle.plain_types.specs.declared.counter_style.CounterStyle.{CounterStyle}
use Rattle.plain_types.specs.declared.style.Quotes.{Quotes}
use Rattle.plain_types.specs.declared.style_ref.StyleRef.{StyleRef}
use Rattle.css_definitions.specs.Representation.{representation}
use Rattle.counter_sets.specs.Sets.{innermost, is_named, with_counter}
use Rattle.quote_depth.specs.Marks.{depth_after, mark}
use Rattle.content_eval.specs.declared.generated.Generated.{Generated}
use Rattle.content_eval.specs.declared.generated.Piece.{Piece}
use Rattle.content_eval.specs.declared.generated.Piece.TheVariants as piece

-- What single items give.

-- CSS Values 5, `attr()`: the value of the attribute on the originating element; one that is absent gives
-- nothing
abbrev pub attribute : List Attr → List ℕ → List ℕ
attribute attrs name = unwrap_or (value_of name attrs) []

-- 2.6: the url of a target
abbrev pub url_of : List Attr → Url → List ℕ
url_of attrs (Given url) = url
url_of attrs (FromAttr name) = attribute attrs name

module _ (table : List CounterStyle) where
  abbrev pub counter_text : StyleRef → Counter → List ℕ
  counter_text style counter = representation table style counter.value

  -- CSS Lists 3, 4.7, `counter()`: the innermost counter of the name
  abbrev pub innermost_text : List Counter → List ℕ → StyleRef → List ℕ
  innermost_text set name style = option_map_or (counter_text style) (innermost set name) []

  -- CSS Lists 3, 4.7, `counters()`: all counters of the name, the outermost first, with a string between
  abbrev pub joined_text : List Counter → List ℕ → List ℕ → StyleRef → List ℕ
  joined_text set name between style = join_by (counter_text style) between (filter (is_named name) set)

-- 3.2: a quote keyword changes the depth
abbrev pub depth_behind : ℕ → Item → ℕ
depth_behind depth (item.Quote kind) = depth_after depth kind
depth_behind depth _ = depth

-- CSS Lists 3, 4.7: `counter()` and `counters()` of a name without a counter create one first. It takes the
-- place of none, whatever `is_replaced` says.
module _ (is_replaced : Counter → Bool) (creator : BoxId) where
  abbrev pub set_behind : List Counter → Item → List Counter
  set_behind set (item.Counter name style) = with_counter is_replaced creator set name
  set_behind set (item.Counters name between style) = with_counter is_replaced creator set name
  set_behind set _ = set

-- A piece for each item, from left to right.

module _ (table : List CounterStyle) (attrs : List Attr) (quotes : Quotes) where
  -- that of an item, where the set behind it and the depth before it are these
  abbrev pub piece_of : List Counter → ℕ → Item → Piece
  piece_of set depth (item.Chars text) = piece.Chars text
  piece_of set depth (item.Attr name) = piece.Chars (attribute attrs name)
  piece_of set depth (item.Quote kind) = piece.Chars (unwrap_or (mark quotes depth kind) [])
  piece_of set depth (item.Counter name style) = piece.Chars (innermost_text table set name style)
  piece_of set depth (item.Counters name between style) = piece.Chars (joined_text table set name between style)
  piece_of set depth (item.TargetCounter url name style) = piece.TargetCounter (url_of attrs url) name style
  piece_of set depth (item.TargetCounters url name between style) = piece.TargetCounters (url_of attrs url) name between style
  piece_of set depth (item.TargetText url part) = piece.TargetText (url_of attrs url) part

  module _ (is_replaced : Counter → Bool) (creator : BoxId) where
    abbrev pub pieces : List Counter → ℕ → List Item → List Piece
    pieces set depth [] = []
    pieces set depth (first ∷ items) =
        piece_of (set_behind is_replaced creator set first) depth first
        ∷ pieces (set_behind is_replaced creator set first) (depth_behind depth first) items

-- what the items of a box give, in a table of counter styles
abbrev pub generated : List CounterStyle → List Item → List Attr → Quotes → BoxId → (Counter → Bool) → List Counter → ℕ → Generated
generated table items attrs quotes creator is_replaced set depth = record {
  pieces = pieces table attrs quotes is_replaced creator set depth items;
  set = fold (set_behind is_replaced creator) set items;
  depth = fold depth_behind depth items;
}
