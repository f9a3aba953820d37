-- Declarations and descriptors of a block: CSS Syntax 3, 5.4.6, and CSS Counter Styles 3, 3.
use Rattle.std.specs.Prelude.{ℕ, Bool, true, false, ◌&&◌, ◌==◌, if◌then◌else◌, List, [], ◌∷◌, length, Option, Some, None, codes}
use Rattle.std.specs.List.{filter_map, list_any}
use Rattle.std.specs.Str.{bytes_eq}
use Rattle.plain_types.specs.declared.counter_style.Descriptor.{Descriptor}
use Rattle.plain_types.specs.declared.counter_style.Descriptor.TheVariants as descriptor
use Rattle.plain_types.specs.declared.declaration.Declared.{Declared}
use Rattle.reading.specs.Punctuation.{exclamation_mark}
use Rattle.reading.specs.Reading.{◌then◌}
use Rattle.css_tokens.specs.declared.token.Token.{Token}
use Rattle.css_tokens.specs.declared.token.TokenKind.{TokenKind}
use Rattle.css_tokens.specs.TokenReading.{is_sign, is_keyword, ident_at, past_delimiter, skip_whitespace}
use Rattle.css_values.specs.Parts.{solid}
use Rattle.css_values.specs.Declarations.{declared}
use Rattle.css_values.specs.Descriptors.{described}
use Rattle.selectors.specs.Compounds.{colon}
use Rattle.css_reader.specs.Blocks.{piece, past_piece}
use Rattle.css_reader.specs.Rules.{parts}

-- What a declaration is made of.

-- an identifier, whitespace if there is some, a colon, and what stands after it
abbrev pub named_at : List Token → Option (List ℕ × List Token)
named_at tokens = ident_at tokens then λ name. past_delimiter colon (skip_whitespace name.1) then λ value. Some (name.0, value)

abbrev pub is_exclamation : TokenKind → Bool
is_exclamation kind = is_sign exclamation_mark kind

-- `important`, and nothing after it but whitespace
abbrev pub is_important : List Token → Bool
is_important [] = false
is_important (word ∷ rest) = is_keyword (codes "important") word.kind && length (skip_whitespace rest) == 0

-- Whether a declaration is important, by what is left after its value: nothing, or `!` and `important`.
-- With anything else it is none, since a value has no `!` of its own outside of blocks (8.2).
abbrev pub importance : List Token → Option Bool
importance [] = Some false
importance (exclamation ∷ rest) = if is_important (skip_whitespace rest) then Some true else None

-- the name, the value up to the first `!`, and whether it is important
abbrev pub cut_of : List ℕ → List Token → Option (List ℕ × List Token × Bool)
cut_of name value = importance (past_piece is_exclamation value) then λ important. Some (name, piece is_exclamation value, important)

unfoldable pub cut : List Token → Option (List ℕ × List Token × Bool)
cut tokens = named_at tokens then λ named. cut_of named.0 named.1

-- Declarations of a style rule.

-- what a declaration says, if it says something of a property that we know
unfoldable pub declaration : List Token → Option Declared
declaration tokens = cut tokens then λ found. declared found.0 (solid found.1) then λ what. Some (record { what = what; important = found.2 })

-- the declarations of a block of this content
unfoldable pub declarations : List Token → List Declared
declarations content = filter_map declaration (parts content)

-- Descriptors of `@counter-style`.

-- CSS Syntax 3, 5.4.6, and CSS Cascade 5, 6.3: `!important` is for properties; a descriptor with it is none
unfoldable pub descriptor_in : List Token → Option Descriptor
descriptor_in tokens = cut tokens then λ found. if found.2 then None else described found.0 (solid found.1)

abbrev pub descriptor_name : Descriptor → List ℕ
descriptor_name (descriptor.System _) = codes "system"
descriptor_name (descriptor.Negative _ _) = codes "negative"
descriptor_name (descriptor.Prefix _) = codes "prefix"
descriptor_name (descriptor.Suffix _) = codes "suffix"
descriptor_name descriptor.RangeAuto = codes "range"
descriptor_name (descriptor.Range _) = codes "range"
descriptor_name (descriptor.Pad _ _) = codes "pad"
descriptor_name (descriptor.Fallback _) = codes "fallback"
descriptor_name (descriptor.Symbols _) = codes "symbols"
descriptor_name (descriptor.Additive _) = codes "additive-symbols"

abbrev pub is_same_descriptor : Descriptor → Descriptor → Bool
is_same_descriptor first second = bytes_eq (descriptor_name first) (descriptor_name second)

-- the last of each name, at its own place
abbrev pub last_of_each : List Descriptor → List Descriptor
last_of_each [] = []
last_of_each (first ∷ rest) = if list_any (is_same_descriptor first) rest then last_of_each rest else first ∷ last_of_each rest

-- 3: of a descriptor that is given more than once, the last that is read holds
unfoldable pub descriptors : List Token → List Descriptor
descriptors content = last_of_each (filter_map descriptor_in (parts content))
