-- The lines of a text (our own).
use Rattle.std.specs.Prelude.{ℕ, Bool, ◌&&◌, ◌||◌, ◌==◌, if◌then◌else◌, List, [], ◌∷◌}
use Rattle.std.specs.List.{list_all}
use Rattle.reading.specs.Punctuation.{carriage_return, line_feed, number_sign}
use Rattle.reading.specs.Reading.{begins}

-- a character and then lines: it stands at the front of the first
abbrev pub put_before : ℕ → List (List ℕ) → List (List ℕ)
put_before character [] = (character ∷ []) ∷ []
put_before character (line ∷ lines) = (character ∷ line) ∷ lines

-- A line feed ends a line, and so does a carriage return with a line feed behind it. The end of the last line
-- may be missing.
unfoldable pub lines : List ℕ → List (List ℕ)
lines [] = []
lines (first ∷ rest) =
    if first == line_feed then [] ∷ lines rest
    else (if first == carriage_return && begins line_feed rest then lines rest
    else put_before first (lines rest))

-- a line of spaces and tabs alone, or one that begins with `#`
abbrev pub is_skipped : List ℕ → Bool
is_skipped line = begins number_sign line || list_all (λ c. c == 32 || c == 9) line
