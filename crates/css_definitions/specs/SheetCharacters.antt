-- Classes of characters of sheets: CSS Syntax 3, 4.2 Definitions. Whitespace is `is_blank`, a hex digit
-- `is_hexadecimal_digit`, and digits and letters are those of all texts.
use Rattle.std.specs.Prelude.{ℕ, Bool, ◌||◌, ◌==◌, nat_le}
use Rattle.reading.specs.Characters.{is_between, is_digit, is_letter}
use Rattle.reading.specs.Punctuation.{hyphen_minus, low_line}

-- ident-start code point: a letter, a non-ASCII code point or `_`
abbrev pub is_ident_start : ℕ → Bool
is_ident_start c = is_letter c || (nat_le 128 c || c == low_line)

-- ident code point: also a digit or `-`
abbrev pub is_ident_character : ℕ → Bool
is_ident_character c = is_ident_start c || (is_digit c || c == hyphen_minus)

-- non-printable code point
abbrev pub is_non_printable : ℕ → Bool
is_non_printable c = is_between 0 8 c || (c == 11 || (is_between 14 31 c || c == 127))
