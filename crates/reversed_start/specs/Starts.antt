-- The value with which a reversed counter starts that is given no number: CSS Lists 3, 4.4. It is told by what
-- boxes do to the counter. The rule is our own after the standard's.
use Rattle.std.specs.Prelude.{ℤ, pos, cond, List, [], ◌∷◌, Some, None}
use Rattle.std.specs.Ordering.{int_eq}
use Rattle.plain_types.specs.Counts.{count_negation, count_sum}
use Rattle.reversed_start.specs.declared.event.Event.{Event}

-- what an event counts down
abbrev pub step_down : Event → ℤ
step_down event = count_negation event.by

-- the latest step that is not 0
abbrev pub latest_step : ℤ → ℤ → ℤ
latest_step latest step = cond (int_eq step (pos 0)) latest step

-- The start, where `total` was counted down until now, and `latest` is the latest step: each event adds its
-- step, up to the first one that sets the counter, which adds that number and no step. The latest step is added
-- once more at the end, so that a counter that nothing sets ends one step above 0.
abbrev pub start_after : (total latest : ℤ) → List Event → ℤ
start_after total latest [] = count_sum total latest
start_after total latest (event ∷ events) = elim event.assigned [
  | Some number ↦ count_sum (count_sum total number) (latest_step latest (step_down event))
  | None ↦ start_after (count_sum total (step_down event)) (latest_step latest (step_down event)) events
]

-- what boxes do to the counter, in tree order, gives its start
unfoldable pub start : List Event → ℤ
start events = start_after (pos 0) (pos 0) events
