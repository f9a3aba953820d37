use Rattle.std.proofs.Common.{◌≡◌, take}
use Rattle.counter_index.specs.Retold.{other_keys}
use Rattle.counter_index.proofs.index.CounterIndex.with_other_starts.Given as goal

abbrev pub invariant-loop-entry : goal.invariant-loop-entry
invariant-loop-entry l = l.keys ≡ other_keys l.self (take l.entry-index l.former)
