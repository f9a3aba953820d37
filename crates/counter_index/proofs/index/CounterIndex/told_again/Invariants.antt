use Rattle.std.proofs.Common.{◌≡◌, take}
use Rattle.counter_index.specs.Indexes.{counting_at, told_by_scope}
use Rattle.counter_index.specs.Retold.{told_entries}
use Rattle.counter_index.proofs.index.CounterIndex.told_again.Given as goal

abbrev pub invariant-loop-key : goal.invariant-loop-key
invariant-loop-key l = l.told.items ≡ told_entries (told_by_scope (counting_at l.self) l.arena.tree) l.self (take l.key-index l.keys)
