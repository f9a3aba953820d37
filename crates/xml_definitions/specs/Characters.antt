-- Classes of characters of documents, by their code points.
use Rattle.std.specs.Prelude.{ℕ, Bool, false, ◌&&◌, ◌||◌, not, ◌==◌, nat_le, List, [], ◌∷◌}
use Rattle.std.specs.List.{list_all}
use Rattle.reading.specs.Characters.{is_between, is_digit, is_letter}

-- XML 1.0, 2.2 Char, without the carriage return, which 2.11 turns into a line feed where it is written (a
-- reference may still give it)
abbrev pub is_character : ℕ → Bool
is_character c = (c == 9 || c == 10) || (is_between 32 0xd7ff c || (is_between 0xe000 0xfffd c || is_between 0x10000 0x10ffff c))

-- XML 1.0, 2.4 CharData: a character that stands for itself, any but `<` and `&`; our own: also where
-- it ends `]]>`
abbrev pub is_plain : ℕ → Bool
is_plain c = is_character c && (not (c == 60) && not (c == 38))

-- our own, wider than XML 1.0, 2.3 NameStartChar: an ASCII letter, `_`, `:` or a character from U+0080
abbrev pub is_name_start : ℕ → Bool
is_name_start c = (is_letter c || (c == 95 || c == 58)) || (nat_le 128 c && is_character c)

-- our own, wider than XML 1.0, 2.3 NameChar: also a digit, `-` or `.`
abbrev pub is_name_character : ℕ → Bool
is_name_character c = is_name_start c || (is_digit c || (c == 45 || c == 46))

-- XML 1.0, 2.3 Name
abbrev pub is_name : List ℕ → Bool
is_name [] = false
is_name (first ∷ rest) = is_name_start first && list_all is_name_character rest
