use Rattle.std.proofs.Common.{◌≡◌, ℕ, List, take}
use Rattle.counter_sets.specs.ByNames.{value_of}
use Rattle.counter_sets.specs.Sets.{last_place}
use Rattle.box_eval.specs.Properties.{is_for}
use Rattle.box_eval.proofs.ops.last_places.Given as goal

abbrev pub invariant-loop-place : goal.invariant-loop-place
invariant-loop-place l = (name : List ℕ) → value_of l.places name ≡ last_place (is_for name) (take l.place l.ops)
