-- Descriptors of `@counter-style`: CSS Counter Styles 3, 3.
use Rattle.std.specs.Prelude.{ℕ, Bool, true, ◌&&◌, not, if◌then◌else◌, List, [], ◌∷◌, Option, Some, None, unwrap_or, codes, ℤ, pos, int_lt}
use Rattle.plain_types.specs.declared.counter_style.Bounds.{Bounds}
use Rattle.plain_types.specs.declared.counter_style.Descriptor.{Descriptor}
use Rattle.plain_types.specs.declared.counter_style.Descriptor.TheVariants as descriptor
use Rattle.plain_types.specs.declared.counter_style.Weight.{Weight}
use Rattle.plain_types.specs.declared.style_ref.System.{System}
use Rattle.plain_types.specs.declared.style_ref.System.TheVariants as system
use Rattle.reading.specs.Reading.{◌then◌, ◌otherwise◌, only, optional}
use Rattle.css_definitions.specs.Words.{is_word}
use Rattle.css_tokens.specs.declared.token.TokenKind.{TokenKind}
use Rattle.css_tokens.specs.TokenReading.{ident_of}
use Rattle.css_values.specs.Parts.{one_at, is_alone, past_keyword, integer_at, natural_at, symbol_at, style_name_at, alone, all_of, comma_list}

-- 3.1: `cyclic | numeric | alphabetic | symbolic | additive`
abbrev pub system_word : List ℕ → Option System
system_word word =
    if is_word word (codes "cyclic") then Some system.Cyclic
    else (if is_word word (codes "numeric") then Some system.Numeric
    else (if is_word word (codes "alphabetic") then Some system.Alphabetic
    else (if is_word word (codes "symbolic") then Some system.Symbolic
    else (if is_word word (codes "additive") then Some system.Additive else None))))

abbrev pub system_of : TokenKind → Option System
system_of kind = ident_of kind then system_word

abbrev pub plain_system_at : List TokenKind → Option (System × List TokenKind)
plain_system_at kinds = one_at system_of kinds

abbrev pub fixed_of : Option ℤ × List TokenKind → System × List TokenKind
fixed_of first = (system.Fixed (unwrap_or first.0 (pos 1)), first.1)

-- 3.1: also `[ fixed <integer>? ]` and `[ extends <counter-style-name> ]`
unfoldable pub system_at : List TokenKind → Option (System × List TokenKind)
system_at kinds =
    plain_system_at kinds
    otherwise (past_keyword (codes "fixed") kinds then λ rest. Some (fixed_of (optional (integer_at rest) rest)))
    otherwise (past_keyword (codes "extends") kinds then λ rest. style_name_at rest then λ name. Some (system.Extends name.0, name.1))

-- an empty text where no symbol stands there
abbrev pub or_empty : Option (List ℕ) × List TokenKind → List ℕ × List TokenKind
or_empty symbol = (unwrap_or symbol.0 [], symbol.1)

abbrev pub optional_symbol_at : List TokenKind → List ℕ × List TokenKind
optional_symbol_at kinds = or_empty (optional (symbol_at kinds) kinds)

abbrev pub negative_of : List ℕ → List ℕ × List TokenKind → Option Descriptor
negative_of before after = only (descriptor.Negative before after.0) after.1

-- 3.2: `<symbol> <symbol>?`
unfoldable pub negative_value : List TokenKind → Option Descriptor
negative_value kinds = symbol_at kinds then λ before. negative_of before.0 (optional_symbol_at before.1)

-- 3.5: `<integer> | infinite`
abbrev pub bound_at : List TokenKind → Option (Option ℤ × List TokenKind)
bound_at kinds =
    (integer_at kinds then λ value. Some (Some value.0, value.1))
    otherwise (past_keyword (codes "infinite") kinds then λ rest. Some (None, rest))

-- 3.5: the first is not above the second
abbrev pub are_in_order : Option ℤ → Option ℤ → Bool
are_in_order (Some low) (Some high) = not (int_lt high low)
are_in_order _ _ = true

abbrev pub bounds : Option ℤ → Option ℤ → Bounds
bounds low high = record { low = low; high = high }

unfoldable pub bounds_at : List TokenKind → Option (Bounds × List TokenKind)
bounds_at kinds = bound_at kinds then λ low. bound_at low.1 then λ high. if are_in_order low.0 high.0 then Some (bounds low.0 high.0, high.1) else None

-- 3.5: `[ [ <integer> | infinite ]{2} ]# | auto`
unfoldable pub range_value : List TokenKind → Option Descriptor
range_value kinds = if is_alone (codes "auto") kinds then Some descriptor.RangeAuto else (comma_list bounds_at kinds then λ ranges. Some (descriptor.Range ranges))

abbrev pub weight_of : ℤ → List ℕ → Weight
weight_of weight symbol = record { weight = weight; symbol = symbol }

-- 3.6 and 3.8, `<integer [0,∞]> && <symbol>`: in either order
unfoldable pub weight_at : List TokenKind → Option (Weight × List TokenKind)
weight_at kinds =
    (natural_at kinds then λ weight. symbol_at weight.1 then λ symbol. Some (weight_of weight.0 symbol.0, symbol.1))
    otherwise (symbol_at kinds then λ symbol. natural_at symbol.1 then λ weight. Some (weight_of weight.0 symbol.0, weight.1))

-- 3.6: `<integer [0,∞]> && <symbol>`
abbrev pub pad_value : List TokenKind → Option Descriptor
pad_value kinds = alone (weight_at kinds) then λ pad. Some (descriptor.Pad pad.weight pad.symbol)

-- 3.8: each integer is below the one before it
abbrev pub is_below : Weight → List Weight → Bool
is_below first [] = true
is_below first (second ∷ rest) = int_lt second.weight first.weight

abbrev pub are_falling : List Weight → Bool
are_falling [] = true
are_falling (first ∷ rest) = is_below first rest && are_falling rest

-- 3.8: `[ <integer [0,∞]> && <symbol> ]#`
unfoldable pub additive_value : List TokenKind → Option Descriptor
additive_value kinds = comma_list weight_at kinds then λ weights. if are_falling weights then Some (descriptor.Additive weights) else None

-- 3.3 and 3.4, `prefix` and `suffix`: `<symbol>`
abbrev pub symbol_value : List TokenKind → Option (List ℕ)
symbol_value kinds = alone (symbol_at kinds)

-- 3.1
abbrev pub system_value : List TokenKind → Option Descriptor
system_value kinds = alone (system_at kinds) then λ system. Some (descriptor.System system)

-- 3.7: `<counter-style-name>`
abbrev pub fallback_value : List TokenKind → Option Descriptor
fallback_value kinds = alone (style_name_at kinds) then λ name. Some (descriptor.Fallback name)

-- 3.8: `<symbol>+`
abbrev pub symbols_value : List TokenKind → Option Descriptor
symbols_value kinds = all_of symbol_at kinds then λ symbols. Some (descriptor.Symbols symbols)

-- what a descriptor of this name with these tokens says, if it is one that we know (our own: no `speak-as`,
-- 3.9)
unfoldable pub described : List ℕ → List TokenKind → Option Descriptor
described name kinds =
    if is_word name (codes "system") then system_value kinds
    else (if is_word name (codes "negative") then negative_value kinds
    else (if is_word name (codes "prefix") then (symbol_value kinds then λ symbol. Some (descriptor.Prefix symbol))
    else (if is_word name (codes "suffix") then (symbol_value kinds then λ symbol. Some (descriptor.Suffix symbol))
    else (if is_word name (codes "range") then range_value kinds
    else (if is_word name (codes "pad") then pad_value kinds
    else (if is_word name (codes "fallback") then fallback_value kinds
    else (if is_word name (codes "symbols") then symbols_value kinds
    else (if is_word name (codes "additive-symbols") then additive_value kinds
    else None))))))))
