-- Classes of characters, as the code names them.
use Rattle.std.specs.Prelude.{ℕ, Bool, ◌&&◌, not, ◌==◌, nat_lt, List}
use Rattle.std.specs.Char.{digit_value}
use Rattle.std.specs.List.{list_all}
use Rattle.reading.specs.Characters.{is_blank, is_digit, is_hexadecimal_digit}
use Rattle.xml_definitions.specs.Characters.{is_character, is_name_character, is_plain}
use Rattle.xhtml_items.specs.declared.characters.Class.{Class}
use Rattle.xhtml_items.specs.declared.characters.Class.TheVariants.{Blank, Name, Digit, HexadecimalDigit, Literal, Plain, Character}

abbrev pub is_of_class : Class → ℕ → Bool
is_of_class Blank = λ c. is_blank c
is_of_class Name = λ c. is_name_character c
is_of_class Digit = λ c. is_digit c
is_of_class HexadecimalDigit = λ c. is_hexadecimal_digit c
is_of_class (Literal quote) = λ c. is_character c && not (c == quote)
is_of_class Plain = λ c. is_plain c
is_of_class Character = λ c. is_character c

-- the characters are digits of this base
abbrev pub are_digits : ℕ → List ℕ → Bool
are_digits base characters = list_all (λ c. nat_lt (digit_value c) base) characters
