-- Exchanges of what is kept under keys, and their way back (our own).
use Rattle.std.specs.Prelude.{◌≡◌, ◌<◌, ℕ, List, [], ◌∷◌, All, Option, Some, None, IfSome, map, unwrap_or, slice_index_or, slice_set}
use Rattle.merged_walk.specs.Entries.{first_at, last_at}

module _ {T : Type 0} where
  -- the keys of what is exchanged, in their order
  abbrev pub keys_in : List (ℕ × Option T) → List ℕ
  keys_in entries = map (λ (entry : ℕ × Option T). entry.0) entries

  -- each of these keys is below the room, where something is to be kept under it
  abbrev pub HasRoomFor : ℕ → List (ℕ × Option T) → Type 0
  HasRoomFor room entries = All (λ (entry : ℕ × Option T). IfSome entry.1 (λ _. entry.0 < room)) entries

  -- what takes out what is kept under these keys, and what puts these in
  abbrev pub takes_out : List ℕ → List (ℕ × Option T)
  takes_out [] = []
  takes_out (key ∷ keys) = (key, None) ∷ takes_out keys

  abbrev pub puts_in : List (ℕ × T) → List (ℕ × Option T)
  puts_in [] = []
  puts_in (put ∷ puts) = (put.0, Some put.1) ∷ puts_in puts

  -- what a map has once each of these is kept under its key, the first of them first
  abbrev pub after_exchange : List (ℕ × Option T) → (ℕ → Option T) → ℕ → Option T
  after_exchange entries held key = unwrap_or (last_at entries key) (held key)

  -- what it has once each of them is kept again, the last of them first
  abbrev pub restored : List (ℕ × Option T) → (ℕ → Option T) → ℕ → Option T
  restored former held key = unwrap_or (first_at former key) (held key)

  -- these restored, a map has what it was
  abbrev pub IsWayBack : List (ℕ × Option T) → (now was : ℕ → Option T) → Type 0
  IsWayBack former now was = (key : ℕ) → restored former now key ≡ was key

  -- slots once each of these is put into that of its key, the first of them first, and what was in the slots
  abbrev pub exchanged : List (ℕ × Option T) → List (Option T) → List (Option T) × List (ℕ × Option T)
  exchanged [] slots = (slots, [])
  exchanged (entry ∷ entries) slots =
      let rest : List (Option T) × List (ℕ × Option T) = exchanged entries (slice_set slots entry.0 entry.1) in
      (rest.0, (entry.0, slice_index_or slots entry.0 None) ∷ rest.1)
