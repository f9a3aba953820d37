-- Sets of counters, and what properties and functions do to them: CSS Lists 3, 4. The set of a box lists the
-- counters in whose scope it is, the innermost of a name last. They are distinct.
use Rattle.std.specs.Prelude.{◌≡◌, ℕ, zero, suc, Bool, true, false, ◌&&◌, ◌==◌, not, ℤ, pos, List, [], ◌∷◌, ◌++◌, Option, Some, None, cond, filter, find, is_some, map, remove, slice_get, unwrap_or}
use Rattle.std.specs.List.{list_any}
use Rattle.std.specs.Option.{option_and_then, option_map_or}
use Rattle.std.specs.Str.{bytes_eq}
use Rattle.plain_types.specs.Counts.{count_sum}
use Rattle.plain_types.specs.declared.box_id.BoxId.{BoxId}
use Rattle.plain_types.specs.declared.box_kind.BoxKind.{BoxKind}
use Rattle.plain_types.specs.declared.box_kind.BoxKind.TheVariants.{Element, Marker, Before, After}
use Rattle.plain_types.specs.declared.counter.Counter.{Counter}

-- Which boxes and counters are the same.

abbrev pub is_same_kind : BoxKind → BoxKind → Bool
is_same_kind Element Element = true
is_same_kind Marker Marker = true
is_same_kind Before Before = true
is_same_kind After After = true
is_same_kind _ _ = false

abbrev pub is_same_box : BoxId → BoxId → Bool
is_same_box first second = (first.key == second.key) && is_same_kind first.kind second.kind

abbrev pub is_named : List ℕ → Counter → Bool
is_named name counter = bytes_eq name counter.name

-- 4: a counter is told by its name and the box that created it
abbrev pub is_same : Counter → Counter → Bool
is_same first second = is_named first.name second && is_same_box first.creator second.creator

abbrev pub is_missing_in : List Counter → Counter → Bool
is_missing_in set counter = not (list_any (is_same counter) set)

-- no two of the counters are the same
abbrev pub AreDistinct : List Counter → Type 0
AreDistinct [] = Unit {0}
AreDistinct (counter ∷ set) = (is_missing_in set counter ≡ true) × AreDistinct set

-- 4.4, inheriting counters. The rule is our own after the standard's.

-- the counter with the value that it has in a set, where it is there
abbrev pub valued_in : List Counter → Counter → Counter
valued_in set counter = option_map_or (λ (same : Counter). record counter { value = same.value }) (find (is_same counter) set) counter

-- the parent's counters, and after them, in their order, those of the preceding sibling's set that are not
-- among these; each takes its value from the set of the box just before in tree order, where that has it. A
-- set is missing where there is no such box.
abbrev pub inherited : List Counter → Option (List Counter) → Option (List Counter) → List Counter
inherited parent sibling preceding =
    map (valued_in (unwrap_or preceding [])) (parent ++ filter (is_missing_in parent) (unwrap_or sibling []))

-- 4.4: the innermost counter of a name is the last one in the set.

-- the last place at which a test holds
abbrev pub last_place : {X : Type 0} → (X → Bool) → List X → Option ℕ
last_place test [] = None
last_place test (x ∷ xs) = option_map_or (λ place. Some (suc place)) (last_place test xs) (cond (test x) (Some 0) None)

abbrev pub innermost_place : List Counter → List ℕ → Option ℕ
innermost_place set name = last_place (is_named name) set

abbrev pub innermost : List Counter → List ℕ → Option Counter
innermost set name = option_and_then (slice_get set) (innermost_place set name)

-- the list with the item at a place changed
abbrev pub change_at : {X : Type 0} → (X → X) → List X → ℕ → List X
change_at change [] place = []
change_at change (x ∷ xs) zero = change x ∷ xs
change_at change (x ∷ xs) (suc place) = x ∷ change_at change xs place

abbrev pub with_value : (ℤ → ℤ) → Counter → Counter
with_value change counter = record counter { value = change counter.value }

abbrev pub with_innermost : (ℤ → ℤ) → List Counter → List ℕ → List Counter
with_innermost change set name = option_map_or (change_at (with_value change) set) (innermost_place set name) set

-- Which counters a new one of the same name takes the place of.

-- 4.4: those that the box itself or an earlier sibling created. These boxes are its peers.
abbrev pub is_by_peer : List BoxId → Counter → Bool
is_by_peer peers counter = list_any (is_same_box counter.creator) peers

-- `is_replaced` is one such test: of the peers, or `is_missing_in` of the parent's set, which says the same of
-- the sets of boxes.
module _ (is_replaced : Counter → Bool) where
  -- the place of the innermost counter of a name, where that counter is replaced
  abbrev pub replaced_place : List Counter → List ℕ → Option ℕ
  replaced_place set name = cond (option_map_or is_replaced (innermost set name) false) (innermost_place set name) None

  -- 4.4, instantiating a counter: the counter whose place it takes goes, and the new one is added at the end.
  -- The rule is our own after the standard's.
  abbrev pub instantiated : List Counter → Counter → List Counter
  instantiated set counter = option_map_or (remove set) (replaced_place set counter.name) set ++ counter ∷ []

  -- Only where a name has no counter is one instantiated here, so that none is replaced.
  module _ (creator : BoxId) where
    -- 4.2 and 4.7: the set with a counter of this name. Where there is none, the box instantiates one with 0,
    -- which is not reversed.
    abbrev pub with_counter : List Counter → List ℕ → List Counter
    with_counter set name =
        cond (is_some (innermost set name)) set (instantiated set (record { name = name; creator = creator; reversed = false; value = pos 0 }))

    -- 4.2, `counter-increment`: the increment is added to the innermost counter of the name. The sum stops at
    -- the ends of counts (our own).
    abbrev pub incremented : List Counter → List ℕ → ℤ → List Counter
    incremented set name by = with_innermost (λ value. count_sum value by) (with_counter set name) name

    -- 4.2, `counter-set`: the innermost counter of the name takes this value
    abbrev pub assigned : List Counter → List ℕ → ℤ → List Counter
    assigned set name value = with_innermost (λ _. value) (with_counter set name) name
