-- Whether an element has the same inputs before an edit and after it (our own).
use Rattle.std.specs.Prelude.{◌==◌, ℕ, Bool, false, not, ◌&&◌, ◌||◌, List, [], ◌∷◌, Option, Some, filter, find, flat_map}
use Rattle.std.specs.Cmp.Lexicographic.{pointwise}
use Rattle.std.specs.Ordering.{int_eq}
use Rattle.std.specs.Str.{bytes_eq}
use Rattle.counter_sets.specs.Sets.{is_same_box}
use Rattle.box_eval.specs.declared.inputs.Inputs.{Inputs}
use Rattle.box_eval.specs.declared.inputs.Start.{Start}
use Rattle.box_eval.specs.Starts.{no_starts}
use Rattle.surroundings.specs.Surroundings.{is_same, surroundings_in}
use Rattle.edit_work.specs.KeyedSources.{KeyedSource, child_elements, either, elements_in, inputs_with, own_starts}

-- starts are compared as they are written
abbrev pub is_same_start : Start → Start → Bool
is_same_start one other = is_same_box one.creator other.creator && (bytes_eq one.name other.name && int_eq one.value other.value)

abbrev pub are_same_starts : List Start → List Start → Bool
are_same_starts starts others = pointwise is_same_start starts others

-- the element, what it is handed and its starts are the same
abbrev pub is_same_inputs : Inputs → Inputs → Bool
is_same_inputs one other = one.key == other.key && (is_same (surroundings_in one) (surroundings_in other) && are_same_starts one.starts other.starts)

-- the inputs of an element, if it has any
abbrev pub inputs_at : List Inputs → ℕ → Option Inputs
inputs_at inputs key = find (λ (its : Inputs). its.key == key) inputs

-- there are inputs before and after, and they are not the same
abbrev pub are_other : (before after : Option Inputs) → Bool
are_other (Some before) (Some after) = not (is_same_inputs before after)
are_other _ _ = false

-- the inputs of an element differ, where these are all
abbrev pub differ_at : (before after : List Inputs) → ℕ → Bool
differ_at before after key = are_other (inputs_at before key) (inputs_at after key)

-- Its inputs differ between two documents: with all starts 0, or with the starts that each of them has.
abbrev pub differs : (before after : KeyedSource) → ℕ → Bool
differs before after key =
    differ_at (inputs_with before no_starts) (inputs_with after no_starts) key
    || differ_at (inputs_with before (own_starts before)) (inputs_with after (own_starts after)) key

-- The elements whose inputs differ, each with its child elements behind it, those before and those after. An element
-- that has inputs before and after is in both trees.
abbrev pub differing_elements : (before after : KeyedSource) → List ℕ
differing_elements before after =
    flat_map (λ key. key ∷ either (child_elements before.tree key) (child_elements after.tree key))
    (filter (differs before after) (elements_in after.tree))
