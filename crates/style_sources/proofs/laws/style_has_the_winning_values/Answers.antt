use Rattle.std.proofs.Common.{ap, unwrap_or}
use Rattle.plain_types.specs.declared.selector_parts.PseudoElement.TheVariants.{Own}
use Rattle.mini_cascade.specs.Declarations.{applied}
use Rattle.mini_cascade.specs.Properties.{content, counter_increment, counter_reset, counter_set, display, initial_values, list_style_type, quotes, specified_value}
use Rattle.style_sources.specs.Properties.{declares}
use Rattle.style_sources.specs.Sources.{placed_declarations}
use Rattle.style_sources.specs.declared.property.Property.TheVariants.{Content, CounterIncrement, CounterReset, CounterSet, Display, ListStyleType, Quotes}
use Rattle.style_sources.proofs.PlacedLaws.{same_saying, those_of_the_cascade}
use Rattle.style_sources.proofs.laws.style_has_the_winning_values.Goals as goal

pub returns-clause-declarations : goal.returns-clause-declarations
returns-clause-declarations c = those_of_the_cascade

pub returns-clause-display : goal.returns-clause-display
returns-clause-display c tree agent author key parent =
    ap (specified_value display.is_inherited (display.value_in (unwrap_or parent initial_values)) display.initial)
    (same_saying display.said_by (declares Display) (placed_declarations tree key agent author) (applied tree key Own agent author) (those_of_the_cascade tree agent author key))

pub returns-clause-content : goal.returns-clause-content
returns-clause-content c tree agent author key parent =
    ap (specified_value content.is_inherited (content.value_in (unwrap_or parent initial_values)) content.initial)
    (same_saying content.said_by (declares Content) (placed_declarations tree key agent author) (applied tree key Own agent author) (those_of_the_cascade tree agent author key))

pub returns-clause-counter_reset : goal.returns-clause-counter_reset
returns-clause-counter_reset c tree agent author key parent =
    ap (specified_value counter_reset.is_inherited (counter_reset.value_in (unwrap_or parent initial_values)) counter_reset.initial)
    (same_saying counter_reset.said_by (declares CounterReset) (placed_declarations tree key agent author) (applied tree key Own agent author) (those_of_the_cascade tree agent author key))

pub returns-clause-counter_increment : goal.returns-clause-counter_increment
returns-clause-counter_increment c tree agent author key parent =
    ap (specified_value counter_increment.is_inherited (counter_increment.value_in (unwrap_or parent initial_values)) counter_increment.initial)
    (same_saying counter_increment.said_by (declares CounterIncrement) (placed_declarations tree key agent author) (applied tree key Own agent author) (those_of_the_cascade tree agent author key))

pub returns-clause-counter_set : goal.returns-clause-counter_set
returns-clause-counter_set c tree agent author key parent =
    ap (specified_value counter_set.is_inherited (counter_set.value_in (unwrap_or parent initial_values)) counter_set.initial)
    (same_saying counter_set.said_by (declares CounterSet) (placed_declarations tree key agent author) (applied tree key Own agent author) (those_of_the_cascade tree agent author key))

pub returns-clause-list_style_type : goal.returns-clause-list_style_type
returns-clause-list_style_type c tree agent author key parent =
    ap (specified_value list_style_type.is_inherited (list_style_type.value_in (unwrap_or parent initial_values)) list_style_type.initial)
    (same_saying list_style_type.said_by (declares ListStyleType) (placed_declarations tree key agent author) (applied tree key Own agent author) (those_of_the_cascade tree agent author key))

pub returns-clause-quotes : goal.returns-clause-quotes
returns-clause-quotes c tree agent author key parent =
    ap (specified_value quotes.is_inherited (quotes.value_in (unwrap_or parent initial_values)) quotes.initial)
    (same_saying quotes.said_by (declares Quotes) (placed_declarations tree key agent author) (applied tree key Own agent author) (those_of_the_cascade tree agent author key))
