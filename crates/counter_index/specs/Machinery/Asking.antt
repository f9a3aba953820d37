-- Elements that ask for starts, by what is kept of them (our own).
use Rattle.std.specs.Prelude.{◌≡◌, ◌+◌, ℕ, Bool, true, false, List, [], ◌∷◌, Option, if◌then◌else◌}
use Rattle.std.specs.FinMap.{FinMap, get}
use Rattle.std.specs.Option.{option_map_or}
use Rattle.std.specs.Ordering.{nat_cmp}

module _ {T : Type 0} (asks : T → Bool) where
  -- one does, if something is kept of it that tells so
  abbrev pub is_asking : Option T → Bool
  is_asking kept = option_map_or asks kept false

  abbrev pub count_asking : List (Option T) → ℕ
  count_asking [] = 0
  count_asking (slot ∷ slots) = (if is_asking slot then 1 else 0) + count_asking slots

  -- some element does
  abbrev pub HasAsking : FinMap nat_cmp T → Type 0
  HasAsking held = (key : ℕ) × (is_asking (get held key) ≡ true)
