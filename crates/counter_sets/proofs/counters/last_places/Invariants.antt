use Rattle.std.proofs.Common.{◌≡◌, ℕ, List, take}
use Rattle.counter_sets.specs.ByNames.{value_of}
use Rattle.counter_sets.specs.Sets.{is_named, last_place}
use Rattle.counter_sets.proofs.counters.last_places.Given as goal

abbrev pub invariant-loop-place : goal.invariant-loop-place
invariant-loop-place l = (name : List ℕ) → value_of l.places name ≡ last_place (is_named name) (take l.place l.counters)
