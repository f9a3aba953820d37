use Rattle.std.proofs.Common.{◌≡◌, ◌++◌, drop}
use Rattle.counter_index.specs.Exchanges.{takes_out}
use Rattle.counter_index.proofs.deeds.put_taken.Given as goal

abbrev pub invariant-loop-key : goal.invariant-loop-key
invariant-loop-key l = l.entries.items ++ takes_out (drop l.key-index l.takes) ≡ l.initial.entries.items ++ takes_out l.takes
