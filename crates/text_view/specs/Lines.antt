-- Lines of text (our own).
use Rattle.std.specs.Prelude.{ℕ, Bool, true, false, ◌||◌, ◌==◌, List, [], ◌∷◌, ◌++◌}
use Rattle.std.specs.List.{filter, flat_map, join_with_byte, slice_split}

-- Infra, 4.6, "ASCII whitespace": the space, the tab, the line feed, the form feed and the carriage return. The no-break
-- space is none of them.
abbrev pub is_blank : ℕ → Bool
is_blank c = c == 32 || (c == 9 || (c == 10 || (c == 12 || c == 13)))

abbrev pub has_some : List ℕ → Bool
has_some [] = false
has_some (c ∷ rest) = true

-- the words of a text: what stands between its blanks
abbrev pub words : List ℕ → List (List ℕ)
words text = filter has_some (slice_split is_blank text)

-- each run of blanks is one space, and there are none at the ends
abbrev pub collapsed : List ℕ → List ℕ
collapsed text = join_with_byte 32 (words text)

-- what isn't empty is a line, and a line feed ends it
abbrev pub ended : List ℕ → List ℕ
ended [] = []
ended (c ∷ rest) = (c ∷ rest) ++ 10 ∷ []

-- what a document gives: characters, and breaks between lines
pub data Piece : Type 0 where
  Break : Piece
  Characters : List ℕ → Piece

-- a text in front of the first of some texts
abbrev pub in_front : List ℕ → List (List ℕ) → List (List ℕ)
in_front text [] = text ∷ []
in_front text (first ∷ others) = (text ++ first) ∷ others

-- the texts between breaks, each joined
abbrev pub between_breaks : List Piece → List (List ℕ)
between_breaks [] = [] ∷ []
between_breaks (Break ∷ rest) = [] ∷ between_breaks rest
between_breaks (Characters text ∷ rest) = in_front text (between_breaks rest)

-- the lines of what a document gives, one after the other
abbrev pub lines : List Piece → List ℕ
lines pieces = flat_map (λ text. ended (collapsed text)) (between_breaks pieces)
