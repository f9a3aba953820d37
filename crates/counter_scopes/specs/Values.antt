-- What boxes do to counters, and the values of counters, told without sets: CSS Lists 3, 4.1 and 4.2.
use Rattle.std.specs.Prelude.{ℕ, ℤ, false, List, [], ◌∷◌, cond, flat_map, map, unwrap_or}
use Rattle.std.specs.List.{fold}
use Rattle.std.specs.Option.{option_map_or}
use Rattle.forest.specs.Forest.{Forest, labels}
use Rattle.plain_types.specs.Counts.{count_sum}
use Rattle.plain_types.specs.declared.box_id.BoxId.{BoxId}
use Rattle.plain_types.specs.declared.counter.Counter.{Counter}
use Rattle.counter_sets.specs.Sets.{is_same_box}
use Rattle.reversed_start.specs.declared.event.Event.{Event}
use Rattle.box_eval.specs.declared.change.Change.{Change}
use Rattle.box_eval.specs.Starts.{events_of}
use Rattle.counter_scopes.specs.Boxes.{DocumentBox}
use Rattle.counter_scopes.specs.Counting.{changed_names, created, event_for}
use Rattle.counter_scopes.specs.Scopes.{innermost_creator}

-- the boxes of a list up to this one
abbrev pub boxes_up_to : BoxId → List DocumentBox → List DocumentBox
boxes_up_to last [] = []
boxes_up_to last (box ∷ later) = box ∷ cond (is_same_box box.id last) [] (boxes_up_to last later)

-- 4.2: the value of a counter after an event: first the whole increment is added, then the number that is set, if
-- any, takes its place
abbrev pub value_after : ℤ → Event → ℤ
value_after value event = unwrap_or event.assigned (count_sum value event.by)

module _ (boxes : Forest DocumentBox) where
  -- 4.2: what a box does to its innermost counter of a name; there is one where the box increments or sets it
  abbrev pub change_at : DocumentBox → List ℕ → Change
  change_at box name =
      let innermost = innermost_creator name boxes box.id in record {
        creator = option_map_or (λ (creator : DocumentBox). creator.id) innermost box.id;
        name = name;
        event = event_for name box (option_map_or (λ creator. (created name creator).reversed) innermost false);
      }

  -- what it does to counters, to one of each name that it increments or sets
  abbrev pub changes_at : DocumentBox → List Change
  changes_at box = map (change_at box) (changed_names box)

  -- what these boxes do to counters, one after the other
  abbrev pub changes_by : List DocumentBox → List Change
  changes_by those = flat_map changes_at those

  -- The counter of a name that a box created, as another box has it: with the value with which it was created,
  -- changed by each event of this very counter, up to and including that box in tree order.
  abbrev pub counter_at : List ℕ → BoxId → DocumentBox → Counter
  counter_at name box creator =
      let first = created name creator in
      record first { value = fold value_after first.value (events_of (changes_by (boxes_up_to box (labels boxes))) creator.id name) }
