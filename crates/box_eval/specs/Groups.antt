-- The events of each counter, under the counter: so the starts of a document are quick to tell (our own).
use Rattle.std.specs.Prelude.{◌≡◌, Bool, ◌&&◌, List, [], unwrap_or}
use Rattle.std.specs.HashMap.{HashMap, get}
use Rattle.std.specs.Str.{IsUtf8, bytes_eq, chars}
use Rattle.counter_sets.specs.Sets.{is_same_box}
use Rattle.reversed_start.specs.declared.event.Event.{Event}
use Rattle.box_eval.specs.declared.change.Change.{Change}
use Rattle.box_eval.specs.declared.counter_id.CounterId.{CounterId}
use Rattle.box_eval.specs.Starts.{events_of}

-- The name of a counter is a text, which has the same characters as another where it has the same bytes.
abbrev pub is_same_counter : CounterId → CounterId → Bool
is_same_counter first second = is_same_box first.creator second.creator && bytes_eq first.name.now second.name.now

-- a change of the counter
abbrev pub is_change_of : CounterId → Change → Bool
is_change_of counter change = is_same_box change.creator counter.creator && bytes_eq change.name (chars counter.name.now)

module _ {S : Type 0} where
  -- the events that stand under a counter
  abbrev pub events_under : HashMap CounterId (List Event) S → CounterId → List Event
  events_under groups counter = unwrap_or (get is_same_counter groups counter) []

  -- under each counter stand its events
  abbrev pub AreGrouped : List Change → HashMap CounterId (List Event) S → Type 0
  AreGrouped changes groups = (counter : CounterId) → IsUtf8 counter.name.now → events_under groups counter ≡ events_of changes counter.creator (chars counter.name.now)
