-- Sets of bytes by ranges (our own).
use Rattle.std.specs.Prelude.{ℕ, Bool, ◌&&◌, not, nat_le, List}
use Rattle.std.specs.List.{list_any}

-- the byte lies in one of the ranges, each its first and its last byte
abbrev pub is_in : List (ℕ × ℕ) → ℕ → Bool
is_in ranges byte = list_any (λ range. nat_le range.0 byte && nat_le byte range.1) ranges

-- it lies in none of them
abbrev pub is_outside : List (ℕ × ℕ) → ℕ → Bool
is_outside ranges byte = not (is_in ranges byte)
