-- Records as a board keeps them: in slots, one for each key below its room (our own).
use Rattle.std.specs.Prelude.{ℕ, ◌+◌, List, [], ◌∷◌, length, Option, Some, None}
use Rattle.std.specs.Ordering.{nat_cmp}
use Rattle.std.specs.FinMap.{FinMap, from_entries}
use Rattle.snapshot_board.specs.Records.{Records}

module _ {R : Type 0} where
  -- the records in these slots, each with its key, where the first slot is that of this key
  abbrev pub entries_from : ℕ → List (Option R) → List (ℕ × R)
  entries_from key [] = []
  entries_from key (None ∷ slots) = entries_from (key + 1) slots
  entries_from key (Some kept ∷ slots) = (key, kept) ∷ entries_from (key + 1) slots

  -- the map that slots from the key 0 on keep
  unfoldable pub held_in : List (Option R) → FinMap nat_cmp R
  held_in slots = from_entries (entries_from 0 slots)

  -- the records that slots keep
  abbrev pub records_in : List (Option R) → Records R
  records_in slots = record { held = held_in slots; room = length slots }
