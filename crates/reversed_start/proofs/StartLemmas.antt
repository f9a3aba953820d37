-- One turn of the loop over the events.
use Rattle.std.proofs.Common.{◌≡◌, ◌+◌, ◌<◌, ℕ, ℤ, List, Some, None, length, drop, get_or, refl, add-one, drop-cons}
use Rattle.plain_types.specs.Counts.{count_sum}
use Rattle.reversed_start.specs.declared.event.Event.{Event}
use Rattle.reversed_start.specs.Starts.{latest_step, start_after, step_down}

module _ (events : List Event) (place : ℕ) (event : Event) (total latest : ℤ) (within : place < length events) where
  pub stops : (number : ℤ) → (get_or events place event).assigned ≡ Some number → start_after total latest (drop place events) ≡ count_sum (count_sum total number) (latest_step latest (step_down (get_or events place event)))
  stops number sets = rw (drop-cons events place event, start_after, sets) refl

  pub goes_on : (get_or events place event).assigned ≡ None → start_after total latest (drop place events) ≡ start_after (count_sum total (step_down (get_or events place event))) (latest_step latest (step_down (get_or events place event))) (drop (place + 1) events)
  goes_on sets = rw (drop-cons events place event, start_after, sets, add-one) refl
