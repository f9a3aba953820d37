use Rattle.std.proofs.Common.{◌≡◌, ◌++◌, drop}
use Rattle.counter_sets.specs.Indexes.{left_by}
use Rattle.counter_sets.specs.Sets.{is_missing_in}
use Rattle.counter_sets.proofs.instantiating.copy_left.Given as goal

abbrev pub invariant-loop-place : goal.invariant-loop-place
invariant-loop-place l = l.left.items ++ left_by (is_missing_in l.parent) l.new (drop l.place l.set) ≡ left_by (is_missing_in l.parent) l.new l.set
