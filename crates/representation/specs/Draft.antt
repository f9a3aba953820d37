-- Texts that are given up once they are too long.
use Rattle.std.specs.Prelude.{ℕ, List, [], ◌∷◌, ◌++◌, Option, Some, None}
use Rattle.css_definitions.specs.Representation.{limited}

-- a draft with a piece at its end; an empty piece changes nothing
abbrev pub extended : Option (List ℕ) → List ℕ → Option (List ℕ)
extended None piece = None
extended (Some text) [] = Some text
extended (Some text) (c ∷ cs) = limited (text ++ c ∷ cs)
