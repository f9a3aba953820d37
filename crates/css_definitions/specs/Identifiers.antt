-- Escapes and identifiers of sheets: CSS Syntax 3, 4.3.7 to 4.3.9 and 4.3.11.
use Rattle.std.specs.Prelude.{ℕ, Bool, true, false, ◌&&◌, ◌||◌, not, ◌==◌, nat_le, if◌then◌else◌, List, [], ◌∷◌, Option, Some, None}
use Rattle.std.specs.Str.Parse.{digits_value}
use Rattle.reading.specs.Characters.{is_between, is_blank, is_hexadecimal_digit}
use Rattle.reading.specs.Punctuation.{line_feed, hyphen_minus, reverse_solidus, replacement_character}
use Rattle.reading.specs.Reading.{begins, span_of, run_at}
use Rattle.css_definitions.specs.SheetCharacters.{is_ident_start, is_ident_character}

-- 4.3.7: zero, a surrogate and what is above the greatest code point are U+FFFD
abbrev pub character_of : ℕ → ℕ
character_of number = if number == 0 || (is_between 0xd800 0xdfff number || nat_le 0x110000 number) then replacement_character else number

-- what is left after one whitespace, if it stands at the front
abbrev pub past_blank : List ℕ → List ℕ
past_blank [] = []
past_blank (first ∷ rest) = if is_blank first then rest else first ∷ rest

abbrev pub hex_escape : List ℕ × List ℕ → ℕ × List ℕ
hex_escape digits = (character_of (digits_value 16 digits.0), past_blank digits.1)

-- 4.3.7 and 4.3.8: the character that is escaped by a `\` before these characters. There is none
-- before a line feed. Up to six hexadecimal digits are its number; the end of the text is U+FFFD.
unfoldable pub escape_at : List ℕ → Option (ℕ × List ℕ)
escape_at [] = Some (replacement_character, [])
escape_at (first ∷ rest) =
    if first == line_feed then None
    else (if is_hexadecimal_digit first then Some (hex_escape (span_of 6 is_hexadecimal_digit (first ∷ rest))) else Some (first, rest))

-- 4.3.8: a `\` before these characters begins an escape
abbrev pub is_escape : List ℕ → Bool
is_escape [] = true
is_escape (first ∷ rest) = not (first == line_feed)

-- a character of an identifier: an ident code point or an escape
unfoldable pub ident_character_at : List ℕ → Option (ℕ × List ℕ)
ident_character_at [] = None
ident_character_at (first ∷ rest) = if is_ident_character first then Some (first, rest) else (if first == reverse_solidus then escape_at rest else None)

-- 4.3.11: an ident sequence is the longest run of these
abbrev pub ident_sequence_at : List ℕ → List ℕ × List ℕ
ident_sequence_at characters = run_at ident_character_at characters

-- an ident-start code point or an escape stands at the front
abbrev pub starts_letter : List ℕ → Bool
starts_letter [] = false
starts_letter (first ∷ rest) = is_ident_start first || (first == reverse_solidus && is_escape rest)

-- 4.3.9: the characters start an identifier
abbrev pub starts_identifier : List ℕ → Bool
starts_identifier [] = false
starts_identifier (first ∷ rest) = if first == hyphen_minus then starts_letter rest || begins hyphen_minus rest else starts_letter (first ∷ rest)

abbrev pub identifier_at : List ℕ → Option (List ℕ × List ℕ)
identifier_at characters = if starts_identifier characters then Some (ident_sequence_at characters) else None
