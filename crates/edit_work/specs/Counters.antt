-- The reversed counters that an edit touches, and the elements in their scope (our own, over CSS Lists 3, 4.4).
use Rattle.std.specs.Prelude.{ℕ, Bool, true, false, not, ◌&&◌, ◌||◌, List, [], ◌∷◌, ◌++◌, Option, filter, flat_map, map}
use Rattle.std.specs.List.{list_any}
use Rattle.std.specs.Option.{option_eq, option_map_or}
use Rattle.std.specs.Ordering.{int_eq}
use Rattle.std.specs.Str.{bytes_eq}
use Rattle.plain_types.specs.declared.box_id.BoxId.{BoxId}
use Rattle.plain_types.specs.declared.counter.Counter.{Counter}
use Rattle.counter_sets.specs.Sets.{is_same_box}
use Rattle.reversed_start.specs.declared.event.Event.{Event}
use Rattle.box_eval.specs.declared.change.Change.{Change}
use Rattle.box_eval.specs.declared.element_record.ElementRecord.{ElementRecord}
use Rattle.box_eval.specs.declared.inputs.Inputs.{Inputs}
use Rattle.box_eval.specs.declared.inputs.Start.{Start}
use Rattle.box_eval.specs.declared.made.Made.{Made}
use Rattle.box_eval.specs.Evaluation.{all_box_changes}
use Rattle.box_eval.specs.Starts.{events_of}
use Rattle.generated_texts.specs.References.{kept_at}
use Rattle.edit_work.specs.Inputs.{inputs_at}
use Rattle.edit_work.specs.KeyedSources.{KeyedSource, either, elements_in, inputs_with, is_among, own_starts, records, styled_with, table}

-- CSS Lists 3, 4: what tells a counter, the box that creates it and its name
pub record Identity : Type 0 where
  pub creator : BoxId
  pub name : List ℕ

abbrev pub is_same_identity : Identity → Identity → Bool
is_same_identity one other = is_same_box one.creator other.creator && bytes_eq one.name other.name

-- a set has the counter
abbrev pub has_counter : Identity → List Counter → Bool
has_counter counter set = list_any (λ (other : Counter). is_same_box other.creator counter.creator && bytes_eq other.name counter.name) set

-- the reversed counters that a document's boxes create without a number
abbrev pub reversed_counters : KeyedSource → List Identity
reversed_counters source =
    map (λ (start : Start). record { creator = start.creator; name = start.name })
    (flat_map (λ (inputs : Inputs). inputs.starts) (inputs_with source (own_starts source)))

-- What boxes do to a counter.

-- the boxes that increment or set it, each with its event, in tree order
abbrev pub events_with_boxes : KeyedSource → Identity → List (BoxId × Event)
events_with_boxes source counter =
    flat_map (λ (box : BoxId × List Change). map (λ event. (box.0, event)) (events_of box.1 counter.creator counter.name))
    (all_box_changes (table source) (styled_with source (own_starts source)))

abbrev pub is_same_event : Event → Event → Bool
is_same_event one other = int_eq one.by other.by && option_eq int_eq one.assigned other.assigned

abbrev pub are_same_events : List (BoxId × Event) → List (BoxId × Event) → Bool
are_same_events [] [] = true
are_same_events [] (other ∷ others) = false
are_same_events (event ∷ events) [] = false
are_same_events (event ∷ events) (other ∷ others) = is_same_box event.0 other.0 && (is_same_event event.1 other.1 && are_same_events events others)

module _ (before after : KeyedSource) where
  -- The boxes that increment or set it, or their events, are not those of before; or a box of one of the placed elements
  -- increments or sets it, before or after.
  abbrev pub is_touched : List ℕ → Identity → Bool
  is_touched placed counter =
      not (are_same_events (events_with_boxes before counter) (events_with_boxes after counter))
      || list_any (λ (box : BoxId × Event). is_among placed box.0.key) (events_with_boxes before counter ++ events_with_boxes after counter)

  -- the reversed counters of both documents, each once
  abbrev pub counters_of_both : List Identity
  counters_of_both =
      reversed_counters before
      ++ filter (λ counter. not (list_any (is_same_identity counter) (reversed_counters before))) (reversed_counters after)

  abbrev pub touched_counters : List ℕ → List Identity
  touched_counters placed = filter (is_touched placed) counters_of_both

-- Scopes, told by sets.

-- the parent's set or the sibling's that is handed to an element has the counter
abbrev pub is_handed : Identity → Inputs → Bool
is_handed counter inputs = has_counter counter inputs.parent || option_map_or (has_counter counter) inputs.sibling false

abbrev pub has_in_box : Identity → Option Made → Bool
has_in_box counter made = option_map_or (λ (box : Made). has_counter counter box.set) made false

-- the set of one of its boxes has it
abbrev pub has_in_boxes : Identity → ElementRecord → Bool
has_in_boxes counter element =
    has_counter counter element.own
    || (has_in_box counter element.marker || (has_in_box counter element.before || has_in_box counter element.after))

abbrev pub is_in_scope : KeyedSource → Identity → ℕ → Bool
is_in_scope source counter key =
    option_map_or (is_handed counter) (inputs_at (inputs_with source (own_starts source)) key) false
    || option_map_or (has_in_boxes counter) (kept_at (records source) key) false

abbrev pub elements_in_scope : KeyedSource → Identity → List ℕ
elements_in_scope source counter = filter (is_in_scope source counter) (elements_in source.tree)

-- the elements in the scope of touched counters, before or after, for each such counter
abbrev pub in_touched_scopes : (before after : KeyedSource) → (placed : List ℕ) → List ℕ
in_touched_scopes before after placed =
    flat_map (λ counter. either (elements_in_scope before counter) (elements_in_scope after counter)) (touched_counters before after placed)
