-- The values of `list-style` and of the counter properties: CSS Lists 3, 3.5, 4.1 and 4.2.
use Rattle.std.specs.Prelude.{ℕ, Bool, true, false, ◌&&◌, ◌+◌, ◌==◌, nat_le, if◌then◌else◌, List, [], ◌∷◌, Option, Some, None, unwrap_or, codes, ℤ, pos}
use Rattle.std.specs.List.{count_by}
use Rattle.plain_types.specs.declared.style.CounterOp.{CounterOp}
use Rattle.plain_types.specs.declared.style.ListType.{ListType}
use Rattle.plain_types.specs.declared.style.ListType.TheVariants as list_type
use Rattle.plain_types.specs.declared.style.ResetOp.{ResetOp}
use Rattle.plain_types.specs.declared.style_ref.StyleRef.TheVariants as style_ref
use Rattle.reading.specs.Reading.{◌then◌, ◌otherwise◌, optional}
use Rattle.css_tokens.specs.declared.token.TokenKind.{TokenKind}
use Rattle.css_values.specs.Parts.{is_alone, past_keyword, past_function, past_close, name_at, integer_at, all_of}
use Rattle.css_values.specs.Styles.{list_type_at}
use Rattle.css_values.specs.declared.list_style.ListStylePart.{ListStylePart}
use Rattle.css_values.specs.declared.list_style.ListStylePart.TheVariants as part

-- `none`, or one or more
abbrev pub none_or : {X : Type 0} → (List TokenKind → Option (X × List TokenKind)) → List TokenKind → Option (List X)
none_or piece_at kinds = if is_alone (codes "none") kinds then Some [] else all_of piece_at kinds

-- 4.1. Without an integer a reversed counter has no value, and any other 0.
abbrev pub reset_value : Bool → Option ℤ → Option ℤ
reset_value true value = value
reset_value false value = Some (unwrap_or value (pos 0))

abbrev pub reset_of : Bool → List ℕ → Option ℤ × List TokenKind → ResetOp × List TokenKind
reset_of reversed name value = (record { name = name; reversed = reversed; value = reset_value reversed value.0 }, value.1)

-- `reversed( <counter-name> )`
abbrev pub reversed_at : List TokenKind → Option (List ℕ × List TokenKind)
reversed_at kinds = past_function (codes "reversed") kinds then λ rest. name_at rest then λ name. past_close name.1 then λ end. Some (name.0, end)

-- `[ <counter-name> | <reversed-counter-name> ] <integer>?`
unfoldable pub reset_at : List TokenKind → Option (ResetOp × List TokenKind)
reset_at kinds =
    (reversed_at kinds then λ name. Some (reset_of true name.0 (optional (integer_at name.1) name.1)))
    otherwise (name_at kinds then λ name. Some (reset_of false name.0 (optional (integer_at name.1) name.1)))

abbrev pub resets : List TokenKind → Option (List ResetOp)
resets kinds = none_or reset_at kinds

-- 4.2, `<counter-name> <integer>?`, this value being meant where no integer stands there

abbrev pub counter_op : List ℕ → ℤ → CounterOp
counter_op name value = record { name = name; value = value }

abbrev pub counter_op_of : List ℕ → ℤ → Option ℤ × List TokenKind → CounterOp × List TokenKind
counter_op_of name missing value = (counter_op name (unwrap_or value.0 missing), value.1)

unfoldable pub counter_op_at : ℤ → List TokenKind → Option (CounterOp × List TokenKind)
counter_op_at missing kinds = name_at kinds then λ name. Some (counter_op_of name.0 missing (optional (integer_at name.1) name.1))

abbrev pub increments : List TokenKind → Option (List CounterOp)
increments kinds = none_or (counter_op_at (pos 1)) kinds

abbrev pub assigns : List TokenKind → Option (List CounterOp)
assigns kinds = none_or (counter_op_at (pos 0)) kinds

-- 3.5, `<'list-style-position'> || <'list-style-image'> || <'list-style-type'>` (our own: no image but
-- `none`). `inside` and `outside` are positions, and `none` is an image or a type.
unfoldable pub part_at : List TokenKind → Option (ListStylePart × List TokenKind)
part_at kinds =
    (past_keyword (codes "inside") kinds then λ rest. Some (part.Position, rest))
    otherwise (past_keyword (codes "outside") kinds then λ rest. Some (part.Position, rest))
    otherwise (past_keyword (codes "none") kinds then λ rest. Some (part.Nothing, rest))
    otherwise (list_type_at kinds then λ type. Some (part.Type type.0, type.1))

abbrev pub is_position : ListStylePart → Bool
is_position part.Position = true
is_position _ = false

abbrev pub is_nothing : ListStylePart → Bool
is_nothing part.Nothing = true
is_nothing _ = false

abbrev pub is_type : ListStylePart → Bool
is_type (part.Type type) = true
is_type _ = false

-- a position, an image and a type at most
abbrev pub fits : List ListStylePart → Bool
fits parts = nat_le (count_by is_position parts) 1 && (nat_le (count_by is_type parts) 1 && nat_le (count_by is_type parts + count_by is_nothing parts) 2)

-- the type that stands there
abbrev pub given_type : List ListStylePart → Option ListType
given_type [] = None
given_type (part.Position ∷ parts) = given_type parts
given_type (part.Nothing ∷ parts) = given_type parts
given_type (part.Type type ∷ parts) = Some type

-- without one `none`, where that stands there, and else `disc`
abbrev pub default_type : ℕ → ListType
default_type count = if count == 0 then list_type.Style (style_ref.Name (codes "disc")) else list_type.Style style_ref.Nothing

abbrev pub type_of : List ListStylePart → Option ListType
type_of parts = if fits parts then Some (unwrap_or (given_type parts) (default_type (count_by is_nothing parts))) else None

unfoldable pub list_style : List TokenKind → Option ListType
list_style kinds = all_of part_at kinds then type_of
