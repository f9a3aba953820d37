-- The styles of an element and of its pseudo-elements, given the style of its parent: CSS Cascade 5, 4.
use Rattle.std.specs.Prelude.{ℕ, Bool, List, Option, is_some, unwrap_or, filter}
use Rattle.forest.specs.Forest.{Forest}
use Rattle.forest.specs.Keys.{Keyed}
use Rattle.plain_types.specs.declared.declaration.Said.{Said}
use Rattle.plain_types.specs.declared.node.Node.{Node}
use Rattle.plain_types.specs.declared.selector_parts.PseudoElement.{PseudoElement}
use Rattle.plain_types.specs.declared.selector_parts.PseudoElement.TheVariants.{Own, Marker, Before, After}
use Rattle.plain_types.specs.declared.sheet.Sheet.{Sheet}
use Rattle.plain_types.specs.declared.style.ElementStyle.{ElementStyle}
use Rattle.plain_types.specs.declared.style.Style.{Style}
use Rattle.reading.specs.Reading.{◌then◌}
use Rattle.mini_cascade.specs.Declarations.{Applied, applied}
use Rattle.mini_cascade.specs.Greatest.{greatest}
use Rattle.mini_cascade.specs.Properties.{Definition, display, content, counter_reset, counter_increment, counter_set, list_style_type, quotes, initial_values, specified_value}
use Rattle.mini_cascade.specs.Ranks.{is_outranked}

abbrev pub gives_way : Applied → Applied → Bool
gives_way a b = is_outranked a.rank b.rank

module _ (all : List Applied) where
  -- 4.2: the cascaded value of a property is what the greatest of its declarations says
  abbrev pub cascaded : {Value : Type 0} → Definition Value → Option (Said Value)
  cascaded property = greatest gives_way (filter (λ (a : Applied). is_some (property.said_by a.what)) all) then λ winner. property.said_by winner.what

  -- 4.3: the specified value, where the parent has this style
  abbrev pub specified : {Value : Type 0} → Style → Definition Value → Value
  specified parent property = specified_value property.is_inherited (property.value_in parent) property.initial (cascaded property)

  abbrev pub style_under : Style → Style
  style_under parent = record {
    display = specified parent display;
    content = specified parent content;
    resets = specified parent counter_reset;
    increments = specified parent counter_increment;
    assigns = specified parent counter_set;
    list_type = specified parent list_style_type;
    quotes = specified parent quotes;
  }

-- the styles of an element and of its pseudo-elements, to each of which these declarations apply; the parent of a
-- pseudo-element is its element, and 7.2: the root has no parent and inherits initial values
module _ (own marker before after : List Applied) where
  abbrev pub with_pseudo_styles : Style → ElementStyle
  with_pseudo_styles style = record { own = style; marker = style_under marker style; before = style_under before style; after = style_under after style }

  abbrev pub styles_under : Option Style → ElementStyle
  styles_under parent = with_pseudo_styles (style_under own (unwrap_or parent initial_values))

module _ (tree : Forest (Keyed Node)) (agent author : Sheet) (key : ℕ) where
  abbrev pub applied_to : PseudoElement → List Applied
  applied_to pseudo = applied tree key pseudo agent author

  -- the styles of the element, where its parent has this style
  abbrev pub element_style : Option Style → ElementStyle
  element_style parent = styles_under (applied_to Own) (applied_to Marker) (applied_to Before) (applied_to After) parent
