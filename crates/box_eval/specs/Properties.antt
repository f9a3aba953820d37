-- What a box's `counter-reset`, `counter-increment` and `counter-set` make of the counters that it inherits:
-- CSS Lists 3, 4.1, 4.2 and 4.6.
use Rattle.std.specs.Prelude.{ℕ, ◌&&◌, Bool, not, ℤ, pos, negsuc, List, [], ◌∷◌, ◌++◌, Option, map, filter, cond, codes, unwrap_or}
use Rattle.std.specs.List.{find, fold, list_any}
use Rattle.std.specs.Option.{option_map, option_map_or}
use Rattle.std.specs.Str.{bytes_eq}
use Rattle.plain_types.specs.Counts.{count_sum}
use Rattle.plain_types.specs.declared.box_id.BoxId.{BoxId}
use Rattle.plain_types.specs.declared.counter.Counter.{Counter}
use Rattle.plain_types.specs.declared.style.CounterOp.{CounterOp}
use Rattle.plain_types.specs.declared.style.ResetOp.{ResetOp}
use Rattle.plain_types.specs.declared.style.Style.{Style}
use Rattle.css_definitions.specs.CounterStyles.{distinct}
use Rattle.counter_sets.specs.Sets.{assigned, incremented, innermost, instantiated, is_same_box}
use Rattle.box_eval.specs.declared.change.Change.{Change}
use Rattle.box_eval.specs.declared.counting.Counted.{Counted}
use Rattle.box_eval.specs.declared.inputs.Start.{Start}

-- Entries of one name.

-- `counter-reset` and `counter-set`: of each name only the last entry holds, where it stands. `reversed(c)` and
-- `c` are one name. (Both are our own.)
module _ {Entry : Type 0} (name_of : Entry → List ℕ) where
  abbrev pub last_of_each : List Entry → List Entry
  last_of_each [] = []
  last_of_each (entry ∷ later) =
      cond (list_any (λ other. bytes_eq (name_of other) (name_of entry)) later) (last_of_each later) (entry ∷ last_of_each later)

abbrev pub last_resets : List ResetOp → List ResetOp
last_resets resets = last_of_each (λ (op : ResetOp). op.name) resets

abbrev pub last_assigns : List CounterOp → List CounterOp
last_assigns assigns = last_of_each (λ (op : CounterOp). op.name) assigns

abbrev pub is_for : List ℕ → CounterOp → Bool
is_for name op = bytes_eq op.name name

abbrev pub names : List CounterOp → List (List ℕ)
names ops = map (λ (op : CounterOp). op.name) ops

-- the number that an entry of this name has
abbrev pub number_for : List ℕ → List CounterOp → Option ℤ
number_for name ops = option_map (λ (op : CounterOp). op.value) (find (is_for name) ops)

-- `counter-increment`: the numbers of one name are added, from left to right, each sum saturated (our own)
abbrev pub sum_for : List ℕ → List CounterOp → ℤ
sum_for name ops = fold (λ sum (op : CounterOp). count_sum sum op.value) (pos 0) (filter (is_for name) ops)

-- each name once, where it comes first, with its sum (our own)
abbrev pub merged : List CounterOp → List CounterOp
merged increments = map (λ name. record { name = name; value = sum_for name increments }) (distinct (names increments))

-- List items.

abbrev pub list_item : List ℕ
list_item = codes "list-item"

-- 4.6: what a list item adds to its innermost counter `list-item`; -1 where that is reversed (our own)
abbrev pub implicit_step : List Counter → ℤ
implicit_step set = option_map_or (λ (counter : Counter). cond counter.reversed (negsuc 0) (pos 1)) (innermost set list_item) (pos 1)

abbrev pub implicit_op : List Counter → CounterOp
implicit_op set = record { name = list_item; value = implicit_step set }

-- 4.6: a list item adds it where its `counter-increment` does not name `list-item`
abbrev pub has_implicit_step : Bool → List CounterOp → Bool
has_implicit_step is_item increments = is_item && not (list_any (is_for list_item) increments)

-- what a box adds to its counters, where these are its counters after its resets; the implicit step is the last
abbrev pub increments_of : Bool → List CounterOp → List Counter → List CounterOp
increments_of is_item increments set =
    cond (has_implicit_step is_item increments) (merged increments ++ implicit_op set ∷ []) (merged increments)

-- The counters of a box. `is_replaced` tells which counters a new one of their name takes the place of.

-- the start of a box's reversed counter of a name; one that is not given is 0
abbrev pub start_in : List Start → BoxId → List ℕ → ℤ
start_in starts creator name =
    option_map_or (λ (start : Start). start.value) (find (λ (start : Start). is_same_box start.creator creator && bytes_eq start.name name) starts) (pos 0)

-- 4.1: the number given; else 0, or the start of a reversed counter
abbrev pub first_value : List Start → BoxId → ResetOp → ℤ
first_value starts creator reset = unwrap_or reset.value (cond reset.reversed (start_in starts creator reset.name) (pos 0))

module _ (is_replaced : Counter → Bool) (box : BoxId) where
  -- 4.1: the counters after one reset, and after all
  abbrev pub reset_by : List Start → List Counter → ResetOp → List Counter
  reset_by starts set reset =
      instantiated is_replaced set (record { name = reset.name; creator = box; reversed = reset.reversed; value = first_value starts box reset })

  abbrev pub after_resets : List Start → List ResetOp → List Counter → List Counter
  after_resets starts resets set = fold (reset_by starts) set (last_resets resets)

  -- 4.2: the counters after these increments, and after these numbers are set
  abbrev pub incremented_all : List CounterOp → List Counter → List Counter
  incremented_all increments set = fold (λ before (op : CounterOp). incremented is_replaced box before op.name op.value) set increments

  abbrev pub assigned_all : List CounterOp → List Counter → List Counter
  assigned_all assigns set = fold (λ before (op : CounterOp). assigned is_replaced box before op.name op.value) set assigns

-- What a box does to counters. The starts of reversed counters are told by it.

-- the box that created the innermost counter of a name; there is one where a box increments or sets it
abbrev pub creator_of : List Counter → List ℕ → BoxId → BoxId
creator_of set name otherwise = option_map_or (λ (counter : Counter). counter.creator) (innermost set name) otherwise

-- to the innermost counter of a name, where the box increments and sets these
abbrev pub change_of : BoxId → List CounterOp → List CounterOp → List Counter → List ℕ → Change
change_of box increments assigns set name = record {
  creator = creator_of set name box;
  name = name;
  event = record { by = unwrap_or (number_for name increments) (pos 0); assigned = number_for name assigns };
}

-- the names of the increments, and then those that are only set
abbrev pub changed_names : List CounterOp → List CounterOp → List (List ℕ)
changed_names increments assigns = names (increments ++ filter (λ (op : CounterOp). not (list_any (is_for op.name) increments)) assigns)

abbrev pub changes_of : BoxId → List CounterOp → List CounterOp → List Counter → List Change
changes_of box increments assigns set = map (change_of box increments assigns set) (changed_names increments assigns)

-- All together.

module _ (is_replaced : Counter → Bool) (box : BoxId) (starts : List Start) where
  -- 4.2: increments come before what is set; the counters after both, and what the box did to counters
  abbrev pub counted_from : List CounterOp → List CounterOp → List Counter → Counted
  counted_from increments assigns set =
      let counters = assigned_all is_replaced box assigns (incremented_all is_replaced box increments set) in
      record { set = counters; changes = changes_of box increments assigns counters }

  -- 4.1: resets come before both. The box inherits these counters, and is a list item's own box or not.
  abbrev pub counted : Bool → Style → List Counter → Counted
  counted is_item style inherited =
      let set = after_resets is_replaced box starts style.resets inherited in
      counted_from (increments_of is_item style.increments set) (last_assigns style.assigns) set
