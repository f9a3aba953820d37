-- Starts that are told again, as they are exchanged (our own).
use Rattle.std.specs.Prelude.{ℕ, ℤ, List, [], ◌∷◌, Option, Some, if◌then◌else◌, flat_map, map}
use Rattle.plain_types.specs.declared.box_id.BoxId.{BoxId}
use Rattle.box_eval.specs.declared.inputs.Start.{Start}
use Rattle.counter_index.specs.declared.index.CounterIndex.{CounterIndex}
use Rattle.counter_index.specs.Indexes.{asked_at, starts_at, starts_by, with_values}
use Rattle.edit_work.specs.Inputs.{are_same_starts}

-- the starts for which elements ask, each with the value that is told so
abbrev pub told_entries : (BoxId → List ℕ → ℤ) → CounterIndex → List ℕ → List (ℕ × Option (List Start))
told_entries told index keys = map (λ key. (key, Some (with_values told (asked_at index key)))) keys

module _ (index : CounterIndex) where
  -- an element, where other starts are kept of it than these
  abbrev pub other_key : ℕ × Option (List Start) → List ℕ
  other_key entry = if are_same_starts (starts_at index entry.0) (starts_by entry.1) then [] else entry.0 ∷ []

  abbrev pub other_keys : List (ℕ × Option (List Start)) → List ℕ
  other_keys former = flat_map other_key former
