-- String tokens: CSS Syntax 3, 4.3.5.
use Rattle.std.specs.Prelude.{ℕ, ◌||◌, ◌==◌, if◌then◌else◌, List, [], ◌∷◌, Option, Some, None}
use Rattle.reading.specs.Characters.{is_quote}
use Rattle.reading.specs.Punctuation.{line_feed, reverse_solidus}
use Rattle.reading.specs.Reading.{◌then◌, run_at}
use Rattle.css_definitions.specs.Identifiers.{escape_at}
use Rattle.css_tokens.specs.declared.token.TokenKind.{TokenKind}
use Rattle.css_tokens.specs.declared.token.TokenKind.TheVariants as kind

abbrev pub some_character : ℕ × List ℕ → Option (Option ℕ × List ℕ)
some_character read = Some (Some read.0, read.1)

-- what a `\` before these characters leaves in a string: before a line feed and at the end nothing
abbrev pub string_escape_at : List ℕ → Option (Option ℕ × List ℕ)
string_escape_at [] = Some (None, [])
string_escape_at (first ∷ rest) = if first == line_feed then Some (None, rest) else (escape_at (first ∷ rest) then some_character)

-- a piece of a string between two quotes, and the character that it leaves, if it leaves one
unfoldable pub string_piece_at : ℕ → List ℕ → Option (Option ℕ × List ℕ)
string_piece_at quote [] = None
string_piece_at quote (first ∷ rest) =
    if first == quote || first == line_feed then None else (if first == reverse_solidus then string_escape_at rest else Some (Some first, rest))

-- the characters that the pieces leave
abbrev pub kept : List (Option ℕ) → List ℕ
kept [] = []
kept (None ∷ pieces) = kept pieces
kept (Some c ∷ pieces) = c ∷ kept pieces

-- after the pieces: the quote or the end of the text ends the string, and a line feed breaks it
abbrev pub string_end : ℕ → List ℕ → List ℕ → TokenKind × List ℕ
string_end quote value [] = (kind.Chars value, [])
string_end quote value (first ∷ rest) = if first == quote then (kind.Chars value, rest) else (kind.BadString, first ∷ rest)

abbrev pub quoted_string : ℕ → List (Option ℕ) × List ℕ → TokenKind × List ℕ
quoted_string quote pieces = string_end quote (kept pieces.0) pieces.1

unfoldable pub string_at : List ℕ → Option (TokenKind × List ℕ)
string_at [] = None
string_at (quote ∷ rest) = if is_quote quote then Some (quoted_string quote (run_at (string_piece_at quote) rest)) else None
