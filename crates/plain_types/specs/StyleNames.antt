-- Names of counter styles.
use Rattle.std.specs.Prelude.{ℕ, List, [], ◌∷◌, cond, map, codes}
use Rattle.std.specs.Char.{to_ascii_lowercase}
use Rattle.std.specs.List.{list_any}
use Rattle.std.specs.Str.{bytes_eq}

-- The names of the predefined styles: those of CSS Counter Styles 3, 6 but for Hebrew, Georgian, kana,
-- `cjk-earthly-branch` and `cjk-heavenly-stem`. These and the styles of section 7 are left out (our own).
abbrev pub predefined_names : List (List ℕ)
predefined_names =
    codes "decimal" ∷ codes "decimal-leading-zero"
    ∷ codes "arabic-indic" ∷ codes "armenian" ∷ codes "upper-armenian" ∷ codes "lower-armenian" ∷ codes "bengali" ∷ codes "cambodian"
    ∷ codes "khmer" ∷ codes "cjk-decimal" ∷ codes "devanagari" ∷ codes "gujarati" ∷ codes "gurmukhi" ∷ codes "kannada" ∷ codes "lao"
    ∷ codes "malayalam" ∷ codes "mongolian" ∷ codes "myanmar" ∷ codes "oriya" ∷ codes "persian" ∷ codes "lower-roman"
    ∷ codes "upper-roman" ∷ codes "tamil" ∷ codes "telugu" ∷ codes "thai" ∷ codes "tibetan"
    ∷ codes "lower-alpha" ∷ codes "lower-latin" ∷ codes "upper-alpha" ∷ codes "upper-latin" ∷ codes "lower-greek"
    ∷ codes "disc" ∷ codes "circle" ∷ codes "square" ∷ codes "disclosure-open" ∷ codes "disclosure-closed" ∷ []

-- Infra, 4.7: ASCII lowercase
abbrev pub lower_case : List ℕ → List ℕ
lower_case name = map to_ascii_lowercase name

-- CSS Counter Styles 3, 3 `<counter-style-name>`: the names of predefined styles count in any ASCII case and
-- become lower-case, all others count as they are written
abbrev pub style_name : List ℕ → List ℕ
style_name name = cond (list_any (bytes_eq (lower_case name)) predefined_names) (lower_case name) name
