-- Presentational hints: what the attributes of HTML's lists say, as declarations.
use Rattle.std.specs.Prelude.{ℕ, Bool, true, false, if◌then◌else◌, ℤ, pos, neg_ℤ, List, [], ◌∷◌, ◌++◌, Option, Some, None, is_some, unwrap_or, codes}
use Rattle.std.specs.Char.{is_ascii_whitespace}
use Rattle.std.specs.Option.{option_to_list}
use Rattle.std.specs.Str.{bytes_eq}
use Rattle.forest.specs.Forest.{Forest}
use Rattle.forest.specs.Keys.{Keyed}
use Rattle.plain_types.specs.Counts.{count_sum}
use Rattle.plain_types.specs.declared.attr.Attr.{Attr}
use Rattle.plain_types.specs.declared.declaration.Declaration.{Declaration}
use Rattle.plain_types.specs.declared.declaration.Declaration.TheVariants as declaration
use Rattle.plain_types.specs.declared.declaration.Said.TheVariants.{Value}
use Rattle.plain_types.specs.declared.node.Node.{Node}
use Rattle.plain_types.specs.declared.style.CounterOp.{CounterOp}
use Rattle.plain_types.specs.declared.style.ListType.TheVariants as list_type
use Rattle.plain_types.specs.declared.style.ResetOp.{ResetOp}
use Rattle.plain_types.specs.declared.style_ref.StyleRef.{StyleRef}
use Rattle.plain_types.specs.declared.style_ref.StyleRef.TheVariants as style_ref
use Rattle.reading.specs.Reading.{◌then◌, ◌otherwise◌, span}
use Rattle.css_definitions.specs.Words.{is_word}
use Rattle.css_tokens.specs.Numbers.{integer_at}
use Rattle.plain_types.specs.Attributes.{value_of}
use Rattle.node_arena.specs.Nodes.{name_of, attrs_of}
use Rattle.mini_cascade.specs.declared.hints.MarkerTypes.{MarkerTypes}
use Rattle.mini_cascade.specs.declared.hints.MarkerTypes.TheVariants.{Numbered, Bulleted, Either}

-- HTML, 2.3.4.1, the rules for parsing integers: ASCII whitespace is passed over, then stand an optional sign
-- and one digit or more; what follows does not count. Our own: the integer is the nearest count.
abbrev pub past_whitespace : List ℕ → List ℕ
past_whitespace text = (span is_ascii_whitespace text).1

abbrev pub integer_in : List ℕ → Option ℤ
integer_in text = integer_at (past_whitespace text) then λ read. Some read.0

-- the integer that an attribute has
abbrev pub integer_attr : List ℕ → List Attr → Option ℤ
integer_attr name attrs = value_of name attrs then integer_in

-- CSS Lists 3, Appendix A: `ol[start]`, `ol[reversed]` and `ol[reversed][start]`. The start is the number of
-- the first item, so the counter begins one step before it. Our own: a start that is no integer is none.
abbrev pub list_reset : Bool → Option ℤ → ResetOp
list_reset reversed value = record { name = codes "list-item"; reversed = reversed; value = value }

abbrev pub start_reset : Bool → Option ℤ → Option ResetOp
start_reset false None = None
start_reset false (Some start) = Some (list_reset false (Some (count_sum start (neg_ℤ (pos 1)))))
start_reset true None = Some (list_reset true None)
start_reset true (Some start) = Some (list_reset true (Some (count_sum start (pos 1))))

abbrev pub start_hint : List Attr → Option Declaration
start_hint attrs = start_reset (is_some (value_of (codes "reversed") attrs)) (integer_attr (codes "start") attrs) then λ reset. Some (declaration.Resets (Value (reset ∷ [])))

-- CSS Lists 3, Appendix A: `li[value]`
abbrev pub item_value : ℤ → CounterOp
item_value value = record { name = codes "list-item"; value = value }

abbrev pub value_hint : List Attr → Option Declaration
value_hint attrs = integer_attr (codes "value") attrs then λ value. Some (declaration.Assigns (Value (item_value value ∷ [])))

-- HTML, 15.3.7: the types of numbered lists, compared as written
abbrev pub numbering : List ℕ → Option StyleRef
numbering type =
    if bytes_eq type (codes "1") then Some (style_ref.Name (codes "decimal"))
    else (if bytes_eq type (codes "a") then Some (style_ref.Name (codes "lower-alpha"))
    else (if bytes_eq type (codes "A") then Some (style_ref.Name (codes "upper-alpha"))
    else (if bytes_eq type (codes "i") then Some (style_ref.Name (codes "lower-roman"))
    else (if bytes_eq type (codes "I") then Some (style_ref.Name (codes "upper-roman")) else None))))

-- HTML, 15.3.7: the types of other lists, in any ASCII case
abbrev pub bullet : List ℕ → Option StyleRef
bullet type =
    if is_word type (codes "none") then Some style_ref.Nothing
    else (if is_word type (codes "disc") then Some (style_ref.Name (codes "disc"))
    else (if is_word type (codes "circle") then Some (style_ref.Name (codes "circle"))
    else (if is_word type (codes "square") then Some (style_ref.Name (codes "square")) else None)))

-- HTML, 15.3.7: of which lists the types count
abbrev pub type_style : MarkerTypes → List ℕ → Option StyleRef
type_style Numbered type = numbering type
type_style Bulleted type = bullet type
type_style Either type = numbering type otherwise bullet type

abbrev pub type_hint : MarkerTypes → List Attr → Option Declaration
type_hint types attrs =
    value_of (codes "type") attrs then λ type. type_style types type then λ style. Some (declaration.ListStyle (Value (list_type.Style style)))

-- the hints of an element of this name with these attributes; there is at most one for a property
abbrev pub hints : List ℕ → List Attr → List Declaration
hints name attrs =
    if bytes_eq name (codes "ol") then option_to_list (start_hint attrs) ++ option_to_list (type_hint Numbered attrs)
    else (if bytes_eq name (codes "ul") then option_to_list (type_hint Bulleted attrs)
    else (if bytes_eq name (codes "li") then option_to_list (value_hint attrs) ++ option_to_list (type_hint Either attrs)
    else []))

-- the hints of a node; a text has none
abbrev pub hints_of : Forest (Keyed Node) → ℕ → List Declaration
hints_of tree key = hints (unwrap_or (name_of tree key) []) (attrs_of tree key)
