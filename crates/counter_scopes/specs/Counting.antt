-- What a box does to the counters of one name: CSS Lists 3, 4.1, 4.2, 4.6 and 4.7.
use Rattle.std.specs.Prelude.{ℕ, ℤ, pos, negsuc, Bool, false, not, ◌&&◌, ◌||◌, List, [], ◌∷◌, ◌++◌, Option, Some, None, cond, filter, find, is_some, unwrap_or}
use Rattle.std.specs.List.{list_any}
use Rattle.std.specs.Option.{option_map_or}
use Rattle.std.specs.Str.{bytes_eq}
use Rattle.css_definitions.specs.CounterStyles.{distinct}
use Rattle.plain_types.specs.declared.content.Item.{Item}
use Rattle.plain_types.specs.declared.content.Item.TheVariants as item
use Rattle.plain_types.specs.declared.counter.Counter.{Counter}
use Rattle.plain_types.specs.declared.style.ResetOp.{ResetOp}
use Rattle.reversed_start.specs.declared.event.Event.{Event}
use Rattle.box_eval.specs.Properties.{first_value, has_implicit_step, is_for, last_assigns, last_resets, list_item, names, number_for, sum_for}
use Rattle.counter_scopes.specs.Boxes.{DocumentBox}

-- 4.7: `counter()` and `counters()` use the counters of their name
abbrev pub uses : List ℕ → Item → Bool
uses name (item.Counter other style) = bytes_eq other name
uses name (item.Counters other between style) = bytes_eq other name
uses name _ = false

module _ (name : List ℕ) (box : DocumentBox) where
  -- 4.1: its reset of the name
  abbrev pub reset_for : Option ResetOp
  reset_for = find (λ (op : ResetOp). bytes_eq op.name name) (last_resets box.resets)

  abbrev pub resets : Bool
  resets = is_some reset_for

  -- 4.6: a list item steps its counter `list-item`, where it does not increment it by itself
  abbrev pub steps : Bool
  steps = has_implicit_step box.is_item box.increments && bytes_eq list_item name

  -- 4.2 and 4.6: what it adds to its counter of the name, if anything; the counter is reversed or not
  abbrev pub increment_for : Bool → Option ℤ
  increment_for reversed =
      cond (list_any (is_for name) box.increments) (Some (sum_for name box.increments)) (cond steps (Some (cond reversed (negsuc 0) (pos 1))) None)

  -- 4.2: the number that it sets a counter of the name to, if it sets one
  abbrev pub assigned_for : Option ℤ
  assigned_for = number_for name (last_assigns box.assigns)

  -- whether it increments, sets or uses a counter of the name
  abbrev pub mentions : Bool
  mentions = is_some (increment_for false) || (is_some assigned_for || list_any (uses name) box.items)

  -- 4.1: the counter of the name that it creates: as its reset says, or with 0 where it has no reset
  abbrev pub created : Counter
  created =
      option_map_or (λ (reset : ResetOp). record { name = name; creator = box.id; reversed = reset.reversed; value = first_value box.starts box.id reset })
      reset_for (record { name = name; creator = box.id; reversed = false; value = pos 0 })

  -- 4.2: what it does to its counter of the name, where it increments or sets one; the counter is reversed or not
  abbrev pub event_for : Bool → Event
  event_for reversed = record { by = unwrap_or (increment_for reversed) (pos 0); assigned = assigned_for }

-- 4.2 and 4.6: the names that a box increments, each once
abbrev pub incremented_names : DocumentBox → List (List ℕ)
incremented_names box = distinct (names box.increments) ++ cond (has_implicit_step box.is_item box.increments) (list_item ∷ []) []

-- those that it increments, and then those that it only sets
abbrev pub changed_names : DocumentBox → List (List ℕ)
changed_names box = incremented_names box ++ filter (λ name. not (list_any (λ other. bytes_eq other name) (incremented_names box))) (names (last_assigns box.assigns))
