-- Counter styles where a value names or writes one: CSS Lists 3, 3.3, and CSS Counter Styles 3, 3 (names)
-- and 4 (`symbols()`).
use Rattle.std.specs.Prelude.{ℕ, nat_le, if◌then◌else◌, List, length, Option, Some, None, unwrap_or, codes, pos}
use Rattle.plain_types.specs.declared.style.ListType.{ListType}
use Rattle.plain_types.specs.declared.style.ListType.TheVariants as list_type
use Rattle.plain_types.specs.declared.style_ref.Anonymous.{Anonymous}
use Rattle.plain_types.specs.declared.style_ref.StyleRef.{StyleRef}
use Rattle.plain_types.specs.declared.style_ref.StyleRef.TheVariants as style_ref
use Rattle.plain_types.specs.declared.style_ref.System.{System}
use Rattle.plain_types.specs.declared.style_ref.System.TheVariants as system
use Rattle.reading.specs.Reading.{◌then◌, ◌otherwise◌, optional, run_at}
use Rattle.css_definitions.specs.Words.{is_word}
use Rattle.css_tokens.specs.declared.token.TokenKind.{TokenKind}
use Rattle.css_tokens.specs.TokenReading.{ident_of}
use Rattle.css_values.specs.Parts.{one_at, string_at, past_keyword, past_function, past_comma, past_close, style_name_at}

-- CSS Counter Styles 3, 4, `<symbols-type>`: `cyclic | numeric | alphabetic | symbolic | fixed`; `fixed`
-- begins with 1 there
abbrev pub symbols_type : List ℕ → Option System
symbols_type word =
    if is_word word (codes "cyclic") then Some system.Cyclic
    else (if is_word word (codes "numeric") then Some system.Numeric
    else (if is_word word (codes "alphabetic") then Some system.Alphabetic
    else (if is_word word (codes "symbolic") then Some system.Symbolic
    else (if is_word word (codes "fixed") then Some (system.Fixed (pos 1)) else None))))

abbrev pub symbols_type_of : TokenKind → Option System
symbols_type_of kind = ident_of kind then symbols_type

abbrev pub or_symbolic : Option System × List TokenKind → System × List TokenKind
or_symbolic type = (unwrap_or type.0 system.Symbolic, type.1)

-- 4: how many strings a system needs
abbrev pub least_symbols : System → ℕ
least_symbols system.Numeric = 2
least_symbols system.Alphabetic = 2
least_symbols _ = 1

abbrev pub anonymous : System → List (List ℕ) → Option Anonymous
anonymous system symbols = if nat_le (least_symbols system) (length symbols) then Some (record { system = system; symbols = symbols }) else None

abbrev pub strings_at : System → List (List ℕ) × List TokenKind → Option (Anonymous × List TokenKind)
strings_at system strings = anonymous system strings.0 then λ style. past_close strings.1 then λ rest. Some (style, rest)

-- the type that is given, and else `symbolic`
abbrev pub symbols_system_at : List TokenKind → System × List TokenKind
symbols_system_at kinds = or_symbolic (optional (one_at symbols_type_of kinds) kinds)

abbrev pub arguments_at : System × List TokenKind → Option (Anonymous × List TokenKind)
arguments_at system = strings_at system.0 (run_at string_at system.1)

-- 4: `symbols( <symbols-type>? [ <string> | <image> ]+ )` (our own: no image)
unfoldable pub symbols_at : List TokenKind → Option (Anonymous × List TokenKind)
symbols_at kinds = past_function (codes "symbols") kinds then λ rest. arguments_at (symbols_system_at rest)

-- `<counter-style> | none`: the name of a style, or `symbols()`, or none
unfoldable pub style_at : List TokenKind → Option (StyleRef × List TokenKind)
style_at kinds =
    (past_keyword (codes "none") kinds then λ rest. Some (style_ref.Nothing, rest))
    otherwise (style_name_at kinds then λ name. Some (style_ref.Name name.0, name.1))
    otherwise (symbols_at kinds then λ style. Some (style_ref.Symbols style.0, style.1))

abbrev pub decimal : StyleRef
decimal = style_ref.Name (codes "decimal")

-- CSS Lists 3, 4.7, `[, [ <counter-style> | none ] ]?`, the last part of a function: `decimal` where it is
-- missing
abbrev pub last_style_at : List TokenKind → Option (StyleRef × List TokenKind)
last_style_at kinds = (past_comma kinds then λ rest. style_at rest then λ style. past_close style.1 then λ end. Some (style.0, end)) otherwise (past_close kinds then λ end. Some (decimal, end))

-- CSS Lists 3, 3.3: `<counter-style> | <string> | none`
unfoldable pub list_type_at : List TokenKind → Option (ListType × List TokenKind)
list_type_at kinds = (string_at kinds then λ string. Some (list_type.Chars string.0, string.1)) otherwise (style_at kinds then λ style. Some (list_type.Style style.0, style.1))
