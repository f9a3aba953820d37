use Rattle.std.proofs.Common.{◌≡◌, ◌++◌, filter, map, take}
use Rattle.counter_sets.specs.Sets.{is_missing_in, valued_in}
use Rattle.counter_sets.proofs.inheriting.push_added.Given as goal

abbrev pub invariant-loop-place : goal.invariant-loop-place
invariant-loop-place l = l.list.items ≡ l.initial.list.items ++ map (valued_in l.values) (filter (is_missing_in l.others) (take l.place l.counters))
