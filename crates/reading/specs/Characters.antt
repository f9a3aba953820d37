-- Classes of characters that documents and sheets share, by their code points.
use Rattle.std.specs.Prelude.{ℕ, Bool, ◌&&◌, ◌||◌, ◌==◌, nat_le, nat_lt, List}
use Rattle.std.specs.List.{list_all}

-- the code point lies between these two, both included
abbrev pub is_between : ℕ → ℕ → ℕ → Bool
is_between low high c = nat_le low c && nat_le c high

-- XML 1.0, 2.3 S, and CSS Syntax 3, 4.2 whitespace: space, tab or line feed (line ends have become line feeds)
abbrev pub is_blank : ℕ → Bool
is_blank c = c == 32 || (c == 9 || c == 10)

-- a double or a single quote
abbrev pub is_quote : ℕ → Bool
is_quote c = c == 34 || c == 39

-- an ASCII digit
abbrev pub is_digit : ℕ → Bool
is_digit c = is_between 48 57 c

-- an ASCII hexadecimal digit, in either case
abbrev pub is_hexadecimal_digit : ℕ → Bool
is_hexadecimal_digit c = is_digit c || (is_between 97 102 c || is_between 65 70 c)

-- an ASCII letter, small
abbrev pub is_lower_letter : ℕ → Bool
is_lower_letter c = is_between 97 122 c

-- an ASCII letter
abbrev pub is_letter : ℕ → Bool
is_letter c = is_lower_letter c || is_between 65 90 c

-- the bytes are ASCII, so each is a character
abbrev pub is_ascii : List ℕ → Bool
is_ascii bytes = list_all (λ byte. nat_lt byte 128) bytes
