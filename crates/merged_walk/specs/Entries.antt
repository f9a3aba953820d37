-- Entries under keys, and what a map of keys has of them (our own).
use Rattle.std.specs.Prelude.{◌≡◌, ◌==◌, ℕ, ◌⊎◌, List, [], ◌∷◌, Option, Some, None, All, Contains, if◌then◌else◌}
use Rattle.std.specs.List.{list_any}
use Rattle.std.specs.Option.{option_or}

module _ {R : Type 0} where
  -- the map has each of these
  abbrev pub Holds : (ℕ → Option R) → List (ℕ × R) → Type 0
  Holds held entries = All (λ (entry : ℕ × R). held entry.0 ≡ Some entry.1) entries

  -- each of these is a change, or the map has it
  abbrev pub Covers : List (ℕ × R) → (ℕ → Option R) → List (ℕ × R) → Type 0
  Covers changes held entries = All (λ (entry : ℕ × R). Contains changes entry ⊎ (held entry.0 ≡ Some entry.1)) entries

  -- each of these is among all
  abbrev pub AreAmong : List (ℕ × R) → List (ℕ × R) → Type 0
  AreAmong entries all = All (Contains all) entries

  -- no two entries differ under one key
  abbrev pub AgreeByKeys : List (ℕ × R) → Type 0
  AgreeByKeys entries = (one other : ℕ × R) → Contains entries one → Contains entries other → one.0 ≡ other.0 → one ≡ other

  -- the first entry under a key
  abbrev pub first_at : List (ℕ × R) → ℕ → Option R
  first_at [] key = None
  first_at (entry ∷ entries) key = if entry.0 == key then Some entry.1 else first_at entries key

  -- the last entry under a key
  abbrev pub last_at : List (ℕ × R) → ℕ → Option R
  last_at [] key = None
  last_at (entry ∷ entries) key = option_or (last_at entries key) (if entry.0 == key then Some entry.1 else None)

  -- what a map has once keys were taken out and then entries were put in, one after the other
  abbrev pub put_over : List (ℕ × R) → List ℕ → (ℕ → Option R) → ℕ → Option R
  put_over puts takes held key =
      option_or (last_at puts key) (if list_any (λ taken. taken == key) takes then None else held key)
