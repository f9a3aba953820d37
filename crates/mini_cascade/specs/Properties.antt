-- The properties that make generated texts, and how they are defaulted: CSS Cascade 5, 7.
use Rattle.std.specs.Prelude.{Bool, true, false, if◌then◌else◌, List, [], Option, Some, None, codes}
use Rattle.plain_types.specs.declared.content.Content.{Content}
use Rattle.plain_types.specs.declared.content.Content.TheVariants.{Normal}
use Rattle.plain_types.specs.declared.declaration.Declaration.{Declaration}
use Rattle.plain_types.specs.declared.declaration.Declaration.TheVariants as declaration
use Rattle.plain_types.specs.declared.declaration.Said.{Said}
use Rattle.plain_types.specs.declared.declaration.Said.TheVariants as said
use Rattle.plain_types.specs.declared.style.CounterOp.{CounterOp}
use Rattle.plain_types.specs.declared.style.Display.{Display}
use Rattle.plain_types.specs.declared.style.Display.TheVariants.{Plain}
use Rattle.plain_types.specs.declared.style.ListType.{ListType}
use Rattle.plain_types.specs.declared.style.ListType.TheVariants as list_type
use Rattle.plain_types.specs.declared.style.Quotes.{Quotes}
use Rattle.plain_types.specs.declared.style.Quotes.TheVariants.{Auto}
use Rattle.plain_types.specs.declared.style.ResetOp.{ResetOp}
use Rattle.plain_types.specs.declared.style.Style.{Style}
use Rattle.plain_types.specs.declared.style_ref.StyleRef.TheVariants as style_ref

-- the definition of a property whose values are these
pub record Definition (Value : Type 0) : Type 0 where
  -- what a declaration says of it, if it is one of this property
  pub said_by : Declaration → Option (Said Value)
  pub value_in : Style → Value
  pub initial : Value
  pub is_inherited : Bool

-- What a declaration says, by its property.

abbrev pub display_said : Declaration → Option (Said Display)
display_said (declaration.Display value) = Some value
display_said _ = None

abbrev pub content_said : Declaration → Option (Said Content)
content_said (declaration.Content value) = Some value
content_said _ = None

abbrev pub resets_said : Declaration → Option (Said (List ResetOp))
resets_said (declaration.Resets value) = Some value
resets_said _ = None

abbrev pub increments_said : Declaration → Option (Said (List CounterOp))
increments_said (declaration.Increments value) = Some value
increments_said _ = None

abbrev pub assigns_said : Declaration → Option (Said (List CounterOp))
assigns_said (declaration.Assigns value) = Some value
assigns_said _ = None

abbrev pub list_type_said : Declaration → Option (Said ListType)
list_type_said (declaration.ListStyle value) = Some value
list_type_said _ = None

abbrev pub quotes_said : Declaration → Option (Said Quotes)
quotes_said (declaration.Quotes value) = Some value
quotes_said _ = None

-- CSS Display 3, 2. Our own: the values that are neither `none` nor `list-item` are one, so that the
-- initial value is no other than `block`.
abbrev pub display : Definition Display
display = record { said_by = display_said; value_in = λ style. style.display; initial = Plain; is_inherited = false }

-- CSS Generated Content 3, 2
abbrev pub content : Definition Content
content = record { said_by = content_said; value_in = λ style. style.content; initial = Normal; is_inherited = false }

-- CSS Lists 3, 4.1
abbrev pub counter_reset : Definition (List ResetOp)
counter_reset = record { said_by = resets_said; value_in = λ style. style.resets; initial = []; is_inherited = false }

-- CSS Lists 3, 4.2
abbrev pub counter_increment : Definition (List CounterOp)
counter_increment = record { said_by = increments_said; value_in = λ style. style.increments; initial = []; is_inherited = false }

abbrev pub counter_set : Definition (List CounterOp)
counter_set = record { said_by = assigns_said; value_in = λ style. style.assigns; initial = []; is_inherited = false }

-- CSS Lists 3, 3.3
abbrev pub list_style_type : Definition ListType
list_style_type = record { said_by = list_type_said; value_in = λ style. style.list_type; initial = list_type.Style (style_ref.Name (codes "disc")); is_inherited = true }

-- CSS Generated Content 3, 3.1
abbrev pub quotes : Definition Quotes
quotes = record { said_by = quotes_said; value_in = λ style. style.quotes; initial = Auto; is_inherited = true }

-- CSS Cascade 5, 7.1: every property has its initial value
abbrev pub initial_values : Style
initial_values = record {
  display = display.initial;
  content = content.initial;
  resets = counter_reset.initial;
  increments = counter_increment.initial;
  assigns = counter_set.initial;
  list_type = list_style_type.initial;
  quotes = quotes.initial;
}

-- CSS Cascade 5, 7.1 to 7.3: the specified value, from the cascaded value if there is one, the parent's
-- value and the initial value
module _ {Value : Type 0} (is_inherited : Bool) (inherited initial : Value) where
  -- 7.3.3, and 7.1 and 7.2 where there is no cascaded value
  abbrev pub unset_value : Value
  unset_value = if is_inherited then inherited else initial

  abbrev pub specified_value : Option (Said Value) → Value
  specified_value None = unset_value
  specified_value (Some (said.Value value)) = value
  specified_value (Some said.Inherit) = inherited
  specified_value (Some said.Initial) = initial
  specified_value (Some said.Unset) = unset_value
