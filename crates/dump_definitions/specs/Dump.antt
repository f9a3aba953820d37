-- How the texts of boxes are written. The format is our own.
use Rattle.std.specs.Prelude.{ℕ, ◌/◌, ◌%◌, Bool, ◌||◌, ◌==◌, nat_lt, cond, List, [], ◌∷◌, ◌++◌, codes, encode_utf8_all}
use Rattle.std.specs.Char.{digit_char}
use Rattle.std.specs.Fmt.{decimal}
use Rattle.std.specs.List.{flat_map}
use Rattle.plain_types.specs.declared.box_kind.BoxKind.{BoxKind}
use Rattle.plain_types.specs.declared.box_kind.BoxKind.TheVariants.{Element, Marker, Before, After}

-- the text of one box, and whose it is: the path of the box's element, and which of its boxes it is
pub record Line : Type 0 where
  pub path : List ℕ
  pub kind : BoxKind
  pub text : List ℕ

-- a path as it is written: `/` before each position, and `/` alone for the root
abbrev pub path_text : List ℕ → List ℕ
path_text [] = codes "/"
path_text (first ∷ rest) = flat_map (λ position. 47 ∷ decimal position) (first ∷ rest)

-- the name of a box's kind
abbrev pub kind_name : BoxKind → List ℕ
kind_name Element = codes "element"
kind_name Marker = codes "marker"
kind_name Before = codes "before"
kind_name After = codes "after"

-- the quote, the backslash, the controls below U+0020, and U+007F
abbrev pub is_escaped : ℕ → Bool
is_escaped c = (c == 34 || c == 92) || (nat_lt c 32 || c == 127)

-- a number below 256 in lower-case hexadecimal, without a leading zero
abbrev pub hexadecimal : ℕ → List ℕ
hexadecimal n = cond (nat_lt n 16) (digit_char n ∷ []) (digit_char (n / 16) ∷ digit_char (n % 16) ∷ [])

-- \" and \\ for the quote and the backslash, \n for the line feed, \u{h} for the others
abbrev pub escape : ℕ → List ℕ
escape c =
    cond (c == 34) (92 ∷ 34 ∷ [])
    (cond (c == 92) (92 ∷ 92 ∷ [])
    (cond (c == 10) (92 ∷ 110 ∷ [])
    (92 ∷ 117 ∷ 123 ∷ (hexadecimal c ++ 125 ∷ []))))

-- a character as it is written between quotes
abbrev pub shown : ℕ → List ℕ
shown c = cond (is_escaped c) (escape c) (c ∷ [])

-- a text as it is written
abbrev pub quoted : List ℕ → List ℕ
quoted text = 34 ∷ (flat_map shown text ++ 34 ∷ [])

-- the characters of a line: PATH KIND "TEXT" and a line feed
abbrev pub line_text : Line → List ℕ
line_text line = path_text line.path ++ 32 ∷ (kind_name line.kind ++ 32 ∷ (quoted line.text ++ 10 ∷ []))

-- the bytes of a dump
abbrev pub dump : List Line → List ℕ
dump lines = encode_utf8_all (flat_map line_text lines)
