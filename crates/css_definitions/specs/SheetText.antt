-- The text of a sheet before it is cut into tokens: CSS Syntax 3, 3.3 Preprocessing the input stream.
use Rattle.std.specs.Prelude.{◌≡◌, ℕ, ◌&&◌, ◌||◌, ◌==◌, if◌then◌else◌, List, [], ◌∷◌, ◌++◌}
use Rattle.reading.specs.Punctuation.{line_feed, form_feed, carriage_return, replacement_character}
use Rattle.reading.specs.Reading.{begins, without_mark}

-- a carriage return and a form feed are line feeds, and U+0000 is U+FFFD
abbrev pub filtered_character : ℕ → ℕ
filtered_character c = if c == carriage_return || c == form_feed then line_feed else (if c == 0 then replacement_character else c)

-- what a character leaves where these follow it: a carriage return before a line feed leaves nothing
abbrev pub left_before : List ℕ → ℕ → List ℕ
left_before rest c = if c == carriage_return && begins line_feed rest then [] else filtered_character c ∷ []

unfoldable pub filtered : List ℕ → List ℕ
filtered [] = []
filtered (first ∷ rest) = left_before rest first ++ filtered rest

abbrev pub prepared : List ℕ → List ℕ
prepared text = filtered (without_mark text)

-- there is nothing left to filter
abbrev pub IsPrepared : List ℕ → Type 0
IsPrepared text = filtered text ≡ text
