-- What is handed from element to element (CSS Lists 3, 4.4), as an evaluation keeps it.
use Rattle.std.specs.Prelude.{◌≡◌, ◌⊎◌, ◌==◌, IsSome, ℕ, Bool, true, false, ◌&&◌, List, [], ◌∷◌, Option, Some, unwrap_or, option_map}
use Rattle.std.specs.Bool.{beq}
use Rattle.std.specs.List.{AllByRecursion}
use Rattle.std.specs.Option.{option_eq, option_or}
use Rattle.std.specs.Ordering.{int_eq}
use Rattle.plain_types.specs.declared.counter.Counter.{Counter}
use Rattle.counter_sets.specs.Sets.{is_same as is_same_counter}
use Rattle.box_eval.specs.declared.entry.Closing.{Closing}
use Rattle.box_eval.specs.declared.entry.Entry.{Entry}
use Rattle.box_eval.specs.declared.inputs.Inputs.{Inputs}
use Rattle.box_eval.specs.declared.inputs.Start.{Start}
use Rattle.box_eval.specs.declared.made.Made.{Made}
use Rattle.box_eval.specs.Elements.{Handed}
use Rattle.surroundings.specs.declared.surroundings.Surroundings.{Surroundings}

-- What is handed on. The sibling boxes before are left out: the parent's set tells what a new counter replaces.

abbrev pub handed_by : Surroundings → Handed
handed_by around = record { parent = around.parent; earlier = []; sibling = around.sibling; preceding = around.preceding; depth = around.depth }

abbrev pub surroundings_of : Handed → Surroundings
surroundings_of handed = record { parent = handed.parent; sibling = handed.sibling; preceding = handed.preceding; depth = handed.depth }

-- the last box of an element before its children, beside its own
abbrev pub last_made : Entry → Option Made
last_made entry = option_or entry.before entry.marker

abbrev pub set_of : Option Made → Option (List Counter)
set_of made = option_map (λ (box : Made). box.set) made

-- what the children of an element are handed
abbrev pub handed_inside : Entry → Surroundings
handed_inside entry = record {
  parent = entry.own;
  sibling = set_of (last_made entry);
  preceding = Some (unwrap_or (set_of (last_made entry)) entry.own);
  depth = entry.depth;
}

-- what is handed on behind an element with these counters, whose parent box has those
abbrev pub handed_behind : (parent own : List Counter) → Closing → Surroundings
handed_behind parent own closing = record { parent = parent; sibling = Some own; preceding = Some closing.exit; depth = closing.depth }

-- The inputs of an element are what it is handed, and its starts.

abbrev pub inputs_from : ℕ → List Start → Surroundings → Inputs
inputs_from key starts around = record {
  key = key;
  parent = around.parent;
  sibling = around.sibling;
  preceding = around.preceding;
  depth = around.depth;
  starts = starts;
}

abbrev pub surroundings_in : Inputs → Surroundings
surroundings_in inputs = record { parent = inputs.parent; sibling = inputs.sibling; preceding = inputs.preceding; depth = inputs.depth }

-- The same is handed on.

-- the counters are the same, and so are their values, and whether they are reversed
abbrev pub is_equal_counter : Counter → Counter → Bool
is_equal_counter one other = is_same_counter one other && (beq one.reversed other.reversed && int_eq one.value other.value)

abbrev pub is_same_set : List Counter → List Counter → Bool
is_same_set [] [] = true
is_same_set [] (other ∷ others) = false
is_same_set (counter ∷ counters) [] = false
is_same_set (counter ∷ counters) (other ∷ others) = is_equal_counter counter other && is_same_set counters others

abbrev pub is_same : Surroundings → Surroundings → Bool
is_same one other =
    is_same_set one.parent other.parent
    && (option_eq is_same_set one.sibling other.sibling
    && (option_eq is_same_set one.preceding other.preceding && one.depth == other.depth))

-- What the evaluation of an element asks of what it is handed.

-- what holds of each counter of the parent's and of the sibling's set
pub record HandsOn (Good : Counter → Type 0) (around : Surroundings) : Type 0 where
  pub parent : AllByRecursion Good around.parent
  pub sibling : AllByRecursion Good (unwrap_or around.sibling [])

-- the counter was created by no box of this element
abbrev pub IsByOther : ℕ → Counter → Type 0
IsByOther key counter = (counter.creator.key == key) ≡ false

-- a box was before
abbrev pub IsBehindBox : Surroundings → Type 0
IsBehindBox around = (IsSome around.preceding × IsSome around.sibling) ⊎ (around.preceding ≡ Some around.parent)
