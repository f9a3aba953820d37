-- The definitions, computed on small texts.
use Rattle.std.proofs.Common.{◌≡◌, [], ◌∷◌, ◌++◌, refl, codes}
use Rattle.text_view.specs.Lines.{Break, Characters, collapsed, lines}

-- a text that stands where an element without a name for breaks has its marks
quoted : lines (Break ∷ Characters (codes "x ") ∷ Characters (8220 ∷ []) ∷ Characters (codes " y") ∷ Characters (8221 ∷ []) ∷ Characters (10 ∷ codes " z") ∷ Break ∷ []) ≡ codes "x “ y” z" ++ 10 ∷ []
quoted = refl

-- two items with their markers, and blanks between them
listed : lines (Break ∷ Characters (10 ∷ codes "  ") ∷ Break ∷ Characters (codes "1. ") ∷ Characters (codes "a") ∷ Break ∷ Characters (10 ∷ 32 ∷ []) ∷ Break ∷ Characters (codes "2. ") ∷ Characters (codes "b") ∷ Break ∷ Break ∷ []) ≡ codes "1. a" ++ 10 ∷ codes "2. b" ++ 10 ∷ []
listed = refl

-- breaks and blanks alone give no line
empty : lines (Break ∷ Break ∷ Characters (32 ∷ 9 ∷ 10 ∷ 12 ∷ 13 ∷ []) ∷ Break ∷ []) ≡ []
empty = refl

-- a no-break space and a vertical tab are no blanks
kept : collapsed (32 ∷ 160 ∷ 32 ∷ 32 ∷ 97 ∷ 11 ∷ 160 ∷ 9 ∷ []) ≡ 160 ∷ 32 ∷ 97 ∷ 11 ∷ 160 ∷ []
kept = refl
