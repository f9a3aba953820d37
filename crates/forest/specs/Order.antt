-- Tree order: DOM, 1.1 "Trees", preorder, depth-first.
use Rattle.std.specs.Prelude.{ℕ, ◌+◌, ◌<◌, ◌==◌, nat_lt, if◌then◌else◌, Bool, true, false, List, [], ◌∷◌, Option, slice_get}
use Rattle.std.specs.List.{position_or_len}
use Rattle.forest.specs.Forest.{Forest}
use Rattle.forest.specs.Keys.{Keyed, keys}

module _ {L : Type 0} where
  -- the place of a node in tree order: how many nodes come before it
  abbrev pub place_of : Forest (Keyed L) → ℕ → ℕ
  place_of forest key = position_or_len (λ other. other == key) (keys forest)

  abbrev pub Precedes : Forest (Keyed L) → ℕ → ℕ → Type 0
  Precedes forest first second = place_of forest first < place_of forest second

  -- the node after a node in tree order
  abbrev pub next_in_order_of : Forest (Keyed L) → ℕ → Option ℕ
  next_in_order_of forest key = slice_get (keys forest) (place_of forest key + 1)

-- which of two routes comes first: that of a node before those of the nodes in it, and else by the
-- first position at which they part
abbrev pub comes_before : List ℕ → List ℕ → Bool
comes_before [] [] = false
comes_before [] (y ∷ ys) = true
comes_before (x ∷ xs) [] = false
comes_before (x ∷ xs) (y ∷ ys) = if x == y then comes_before xs ys else nat_lt x y
