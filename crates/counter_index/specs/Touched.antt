-- Which starts an exchange of deeds can change (our own, over CSS Lists 3, 4.4).
use Rattle.std.specs.Prelude.{◌≡◌, ◌&&◌, ℕ, ◌⊎◌, Bool, true, All, List, [], ◌∷◌, ◌++◌, Option, if◌then◌else◌, flat_map, option_map}
use Rattle.std.specs.Cmp.Lexicographic.{pointwise}
use Rattle.std.specs.Option.{option_map_or}
use Rattle.plain_types.specs.declared.box_id.BoxId.{BoxId}
use Rattle.box_eval.specs.declared.change.Change.{Change}
use Rattle.box_eval.specs.Starts.{events_of}
use Rattle.edit_work.specs.Counters.{Identity, is_same_event}
use Rattle.edit_work.specs.Inputs.{are_same_starts}
use Rattle.edit_work.specs.KeyedSources.{is_among}
use Rattle.start_reach.specs.Deeds.{AreAlike, Deeds, IsIdle}
use Rattle.counter_index.specs.declared.deeds.CounterDeeds.{CounterDeeds}
use Rattle.counter_index.specs.declared.index.CounterIndex.{CounterIndex}
use Rattle.counter_index.specs.Exchanges.{restored}
use Rattle.counter_index.specs.Indexes.{asked_at, asked_by, deeds_at, is_asked}

-- What elements do, of what is kept of them. One of which nothing is kept does nothing.

abbrev pub deeds_by : CounterDeeds → Deeds
deeds_by deeds = record { before_children = deeds.before_children; after_children = deeds.after_children }

-- what its boxes do before its children, and what its box after them does
abbrev pub changes_before : Option CounterDeeds → List Change
changes_before deeds = option_map_or (λ (its : CounterDeeds). its.before_children) deeds []

abbrev pub changes_after : Option CounterDeeds → List Change
changes_after deeds = option_map_or (λ (its : CounterDeeds). its.after_children) deeds []

-- What is told again. `former` has what was kept of the elements that were exchanged, and `moved` are the elements that go or
-- come.

module _ (former : List (ℕ × Option CounterDeeds)) (moved : List ℕ) (index : CounterIndex) where
  -- what is kept of an element, and what was kept of it before the exchange
  abbrev pub was_kept : ℕ → Option CounterDeeds
  was_kept key = restored former (deeds_at index) key

  abbrev pub does : ℕ → Option Deeds
  does key = option_map deeds_by (deeds_at index key)

  abbrev pub did : ℕ → Option Deeds
  did key = option_map deeds_by (was_kept key)

  -- to this counter each element does the same as before, and those that go or come did nothing
  pub record IsUntouched (counter : Identity) : Type 0 where
    pub alike : (key : ℕ) → AreAlike counter (does key) (did key)
    pub idle : All (λ (key : ℕ). IsIdle counter (did key)) moved

  -- The creator of each counter whose start is asked for is among these elements, or the counter is untouched. Each element that
  -- asks for other starts than before is among these elements too.
  pub record AreTouched (keys : List ℕ) : Type 0 where
    pub others : (counter : Identity) → is_asked index counter.creator counter.name ≡ true → (is_among keys counter.creator.key ≡ true) ⊎ IsUntouched counter
    pub own : (key : ℕ) → (is_among keys key ≡ true) ⊎ (asked_at index key ≡ asked_by (was_kept key))

-- The elements that are found, by what is looked at.

-- changes do the same to the counter of this name that this box creates
abbrev pub do_same : BoxId → List ℕ → List Change → List Change → Bool
do_same creator name changes others = pointwise is_same_event (events_of changes creator name) (events_of others creator name)

-- elements do the same to it
abbrev pub is_alike : BoxId → List ℕ → (now was : Option CounterDeeds) → Bool
is_alike creator name now was = do_same creator name (changes_before now) (changes_before was) && do_same creator name (changes_after now) (changes_after was)

-- an element, where it asks for other starts than before
abbrev pub asking_other : ℕ → (now was : Option CounterDeeds) → List ℕ
asking_other key now was = if are_same_starts (asked_by now) (asked_by was) then [] else key ∷ []

module _ (index : CounterIndex) where
  -- the element that creates the counter of a change, where it asks for its start
  abbrev pub asking : Change → List ℕ
  asking change = if is_asked index change.creator change.name then change.creator.key ∷ [] else []

  -- the same, where elements do something else to the counter
  abbrev pub touched_by : (now was : Option CounterDeeds) → Change → List ℕ
  touched_by now was change = if is_alike change.creator change.name now was then [] else asking change

  -- those of all changes of an element
  abbrev pub touched_in : (now was its : Option CounterDeeds) → List ℕ
  touched_in now was its = flat_map (touched_by now was) (changes_before its) ++ flat_map (touched_by now was) (changes_after its)

  -- by an element that was exchanged, and what was kept of it
  abbrev pub by_exchanged : ℕ × Option CounterDeeds → List ℕ
  by_exchanged entry =
      let now : Option CounterDeeds = deeds_at index entry.0 in
      asking_other entry.0 now entry.1 ++ (touched_in now entry.1 now ++ touched_in now entry.1 entry.1)

  -- by an element that goes or comes
  abbrev pub by_moved : ℕ → List ℕ
  by_moved key = flat_map asking (changes_before (deeds_at index key)) ++ flat_map asking (changes_after (deeds_at index key))

  abbrev pub touched_keys : List (ℕ × Option CounterDeeds) → (moved : List ℕ) → List ℕ
  touched_keys former moved = flat_map by_exchanged former ++ flat_map by_moved moved
