-- The properties of which a source is told, by their definitions in the cascade: CSS Cascade 5, 7.
use Rattle.std.specs.Prelude.{Bool, ◌&&◌, not, if◌then◌else◌, is_some}
use Rattle.plain_types.specs.declared.declaration.Declaration.{Declaration}
use Rattle.mini_cascade.specs.Properties.{display, content, counter_reset, counter_increment, counter_set, list_style_type, quotes}
use Rattle.style_sources.specs.declared.property.Property.{Property}
use Rattle.style_sources.specs.declared.property.Property.TheVariants.{Display, Content, CounterReset, CounterIncrement, CounterSet, ListStyleType, Quotes}
use Rattle.style_sources.specs.declared.value_source.ValueSource.{ValueSource}
use Rattle.style_sources.specs.declared.value_source.ValueSource.TheVariants.{Inherited, Initial}

-- a declaration is one of this property
abbrev pub declares : Property → Declaration → Bool
declares Display what = is_some (display.said_by what)
declares Content what = is_some (content.said_by what)
declares CounterReset what = is_some (counter_reset.said_by what)
declares CounterIncrement what = is_some (counter_increment.said_by what)
declares CounterSet what = is_some (counter_set.said_by what)
declares ListStyleType what = is_some (list_style_type.said_by what)
declares Quotes what = is_some (quotes.said_by what)

abbrev pub is_inherited : Property → Bool
is_inherited Display = display.is_inherited
is_inherited Content = content.is_inherited
is_inherited CounterReset = counter_reset.is_inherited
is_inherited CounterIncrement = counter_increment.is_inherited
is_inherited CounterSet = counter_set.is_inherited
is_inherited ListStyleType = list_style_type.is_inherited
is_inherited Quotes = quotes.is_inherited

-- 7.1 and 7.2: the source where no declaration applies. An inherited property is inherited from the parent; the root has no
-- parent, and its values are the initial ones, as are those of the other properties
abbrev pub undeclared : Bool → Property → ValueSource
undeclared is_root property = if is_inherited property && not is_root then Inherited else Initial
