-- How the innermost counters of sets are looked up, and what many new counters leave of a set (our own).
use Rattle.std.specs.Prelude.{◌≡◌, ℕ, Bool, false, ◌&&◌, not, List, [], ◌∷◌, Option, IfSome, cond}
use Rattle.std.specs.List.{list_any}
use Rattle.plain_types.specs.declared.counter.Counter.{Counter}
use Rattle.counter_sets.specs.ByNames.{value_of}
use Rattle.counter_sets.specs.Sets.{innermost_place, is_named}

-- these are the places of a set's innermost counters, where they are kept
abbrev pub HasPlaces : Option (List (List ℕ × ℕ)) → List Counter → Type 0
HasPlaces places set = IfSome places (λ kept. (name : List ℕ) → value_of kept name ≡ innermost_place set name)

-- no two of the counters have one name
abbrev pub HaveOwnNames : List Counter → Type 0
HaveOwnNames [] = Unit {0}
HaveOwnNames (counter ∷ set) = (list_any (is_named counter.name) set ≡ false) × HaveOwnNames set

-- the counters of a set whose places none of the new ones takes: those of other names, those that are not the
-- innermost of their name, and those that are not replaced
module _ (is_replaced : Counter → Bool) (new : List Counter) where
  abbrev pub left_by : List Counter → List Counter
  left_by [] = []
  left_by (counter ∷ set) =
      cond (list_any (is_named counter.name) new && (not (list_any (is_named counter.name) set) && is_replaced counter)) (left_by set) (counter ∷ left_by set)
