-- Attribute selectors: Selectors 4, 6.
use Rattle.std.specs.Prelude.{ℕ, ◌==◌, nat_eq, Bool, true, not, ◌&&◌, ◌||◌, if◌then◌else◌, List, [], ◌∷◌, ◌++◌, length, codes}
use Rattle.std.specs.Char.{is_ascii_whitespace}
use Rattle.std.specs.List.{list_any, slice_split, starts_with, ends_with}
use Rattle.std.specs.Str.{bytes_eq}
use Rattle.plain_types.specs.StyleNames.{lower_case}
use Rattle.plain_types.specs.declared.selector_parts.AttrTest.{AttrTest}
use Rattle.plain_types.specs.declared.selector_parts.AttrTest.TheVariants.{Present, Equal, Word, Dash, Start, End, Inside}

-- the parts between ASCII whitespace: Infra, 4.6, tab, LF, FF, CR and space
abbrev pub parts : List ℕ → List (List ℕ)
parts text = slice_split is_ascii_whitespace text

-- one of the parts is this word; a part without characters is no word
abbrev pub has_word : List ℕ → List ℕ → Bool
has_word text word = not (length word == 0) && list_any (bytes_eq word) (parts text)

-- the value stands in the text, from some character on
abbrev pub contains : List ℕ → List ℕ → Bool
contains [] value = starts_with nat_eq [] value
contains (first ∷ rest) value = starts_with nat_eq (first ∷ rest) value || contains rest value

-- Selectors 4, 6.1 and 6.2: `=`, `~=`, `|=`, `^=`, `$=`, `*=`. An empty value begins, ends and stands in no text.
abbrev pub passes : AttrTest → List ℕ → List ℕ → Bool
passes Present text value = true
passes Equal text value = bytes_eq text value
passes Word text value = has_word text value
passes Dash text value = bytes_eq text value || starts_with nat_eq text (value ++ codes "-")
passes Start text value = not (length value == 0) && starts_with nat_eq text value
passes End text value = not (length value == 0) && ends_with nat_eq text value
passes Inside text value = not (length value == 0) && contains text value

-- Selectors 4, 6.3: with the flag `i` ASCII case does not count
abbrev pub in_case : Bool → List ℕ → List ℕ
in_case fold text = if fold then lower_case text else text

abbrev pub passes_in_case : Bool → AttrTest → List ℕ → List ℕ → Bool
passes_in_case fold test text value = passes test (in_case fold text) (in_case fold value)
