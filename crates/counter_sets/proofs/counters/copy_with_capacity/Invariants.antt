use Rattle.std.proofs.Common.{◌≡◌, take}
use Rattle.counter_sets.proofs.counters.copy_with_capacity.Given as goal

abbrev pub invariant-loop-counter : goal.invariant-loop-counter
invariant-loop-counter l = l.copy.items ≡ take l.counter-index l.counters
