-- A text as its items are read from it.
use Rattle.std.specs.Prelude.{ℕ, ◌&&◌, ◌==◌, if◌then◌else◌, List, [], ◌∷◌}
use Rattle.reading.specs.Reading.{without_mark}

-- a carriage return as a line feed
abbrev pub as_line_feed : ℕ → ℕ
as_line_feed c = if c == 13 then 10 else c

-- XML 1.0, 2.11: a carriage return before a line feed goes, and every other one becomes a line feed
abbrev pub with_line_feeds : List ℕ → List ℕ
with_line_feeds [] = []
with_line_feeds (last ∷ []) = as_line_feed last ∷ []
with_line_feeds (first ∷ second ∷ rest) =
    if first == 13 && second == 10 then with_line_feeds (second ∷ rest) else as_line_feed first ∷ with_line_feeds (second ∷ rest)

abbrev pub normalized : List ℕ → List ℕ
normalized text = with_line_feeds (without_mark text)
