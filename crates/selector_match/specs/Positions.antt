-- Positions among siblings: Selectors 4, 13.3 and 13.4.
use Rattle.std.specs.Prelude.{ℕ, ◌+◌, Bool, true, false, not, ◌&&◌, ◌||◌, ◌==◌, ℤ, pos, ◌+ℤ◌, ◌*ℤ◌, unsigned_abs, List, if◌then◌else◌}
use Rattle.std.specs.List.{list_any, count_by, range_with_len}
use Rattle.std.specs.Ordering.{int_eq}
use Rattle.std.specs.Str.{bytes_eq}
use Rattle.selector_match.specs.Elements.{Element, Level}

-- CSS Syntax 3, 6 "The An+B microsyntax": the position that `an+b` gives for this n
abbrev pub nth_position : ℤ → ℤ → ℕ → ℤ
nth_position a b n = (a *ℤ pos n) +ℤ b

-- `an+b` gives this position for some n; no n beyond the sum of the position and the size of b gives it
-- where none up to there does
abbrev pub is_nth : ℤ → ℤ → ℕ → Bool
is_nth a b position = list_any (λ n. int_eq (nth_position a b n) (pos position)) (range_with_len 0 (position + unsigned_abs b + 1))

-- the siblings after an element, or those before it
abbrev pub siblings : Bool → Level → List Element
siblings after level = if after then level.later else level.earlier

-- a sibling counts: any does, or one of the same name, compared as written
abbrev pub is_counted : Bool → Element → Element → Bool
is_counted same_type element sibling = not same_type || bytes_eq sibling.name element.name

-- so many of the siblings after an element, or before it, count
abbrev pub sibling_count : Bool → Bool → Level → ℕ
sibling_count after same_type level = count_by (is_counted same_type level.element) (siblings after level)

-- the position of an element among those that count, from 1
abbrev pub position_of : Bool → Bool → Level → ℕ
position_of from_end same_type level = sibling_count from_end same_type level + 1

-- no sibling counts
abbrev pub is_only : Bool → Level → Bool
is_only same_type level = (sibling_count false same_type level == 0) && (sibling_count true same_type level == 0)
