-- The greatest of a list, where a test tells which of two is less.
use Rattle.std.specs.Prelude.{Bool, if◌then◌else◌, List, [], ◌∷◌, Option, Some, None}

module _ {X : Type 0} (is_less : X → X → Bool) where
  -- the greater of two that may be missing; of equals the second
  abbrev pub greater : Option X → Option X → Option X
  greater None second = second
  greater (Some first) None = Some first
  greater (Some first) (Some second) = Some (if is_less second first then first else second)

  -- the greatest; of equals the last
  abbrev pub greatest : List X → Option X
  greatest [] = None
  greatest (first ∷ rest) = greater (Some first) (greatest rest)
