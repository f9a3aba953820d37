-- What an index of counters has (our own, over CSS Lists 3, 4.4).
use Rattle.std.specs.Prelude.{◌≡◌, ℕ, ℤ, Bool, true, List, [], Option, map, option_map}
use Rattle.std.specs.FinMap.{FinMap, get}
use Rattle.std.specs.Option.{option_map_or}
use Rattle.std.specs.Ordering.{nat_cmp}
use Rattle.forest.specs.Forest.{Forest}
use Rattle.forest.specs.Keys.{Keyed}
use Rattle.plain_types.specs.declared.box_id.BoxId.{BoxId}
use Rattle.reversed_start.specs.Starts.{start}
use Rattle.box_eval.specs.declared.inputs.Start.{Start}
use Rattle.box_eval.specs.Properties.{start_in}
use Rattle.box_eval.specs.Starts.{events_of, has_starts}
use Rattle.scope_deeds.specs.Counting.{Counting}
use Rattle.scope_deeds.specs.KeptScopes.{kept_scope}
use Rattle.scope_deeds.specs.Reversed.{is_start_of}
use Rattle.counter_index.specs.declared.deeds.CounterDeeds.{CounterDeeds}
use Rattle.counter_index.specs.declared.index.CounterIndex.{CounterIndex}

-- what is kept of an element
abbrev pub deeds_at : CounterIndex → ℕ → Option CounterDeeds
deeds_at index key = get index.deeds.held key

-- what tells the starts of counters, of what is kept of an element
abbrev pub counting_by : CounterDeeds → Counting
counting_by deeds = record { own = deeds.own; deeds = record { before_children = deeds.before_children; after_children = deeds.after_children } }

-- the same of each element of which something is kept
abbrev pub countings : FinMap nat_cmp CounterDeeds → ℕ → Option Counting
countings held key = option_map counting_by (get held key)

abbrev pub counting_at : CounterIndex → ℕ → Option Counting
counting_at index = countings index.deeds.held

-- the starts for which the boxes of an element ask
abbrev pub asked_by : Option CounterDeeds → List Start
asked_by deeds = option_map_or (λ (its : CounterDeeds). its.asked) deeds []

abbrev pub asked_at : CounterIndex → ℕ → List Start
asked_at index key = asked_by (deeds_at index key)

-- some element asks
abbrev pub AsksForStarts : CounterIndex → Type 0
AsksForStarts index = (key : ℕ) × (has_starts (asked_at index key) ≡ true)

-- the starts for which they ask, each with the value that is kept
abbrev pub starts_by : Option (List Start) → List Start
starts_by starts = option_map_or (λ (its : List Start). its) starts []

abbrev pub starts_at : CounterIndex → ℕ → List Start
starts_at index key = starts_by (get index.starts.held key)

-- the value that is kept of a counter, and 0 where none is
abbrev pub value_at : CounterIndex → BoxId → List ℕ → ℤ
value_at index creator name = start_in (starts_at index creator.key) creator name

-- the boxes of its creator's element ask for its start
abbrev pub is_asked : CounterIndex → BoxId → List ℕ → Bool
is_asked index creator name = is_start_of creator name (asked_at index creator.key)

-- starts, each with the value that is told so
abbrev pub with_values : (BoxId → List ℕ → ℤ) → List Start → List Start
with_values told starts = map (λ (start : Start). record { creator = start.creator; name = start.name; value = told start.creator start.name }) starts

-- the start of a counter, as what is kept of the elements in its scope tells it
abbrev pub told_by_scope : {L : Type 0} → (ℕ → Option Counting) → Forest (Keyed L) → BoxId → List ℕ → ℤ
told_by_scope kept tree creator name = start (events_of (kept_scope kept creator name tree) creator name)
