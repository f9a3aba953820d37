use Rattle.std.proofs.Common.{◌≡◌, ◌++◌, drop}
use Rattle.counter_index.proofs.deeds.add_changes.Given as goal

abbrev pub invariant-loop-change : goal.invariant-loop-change
invariant-loop-change l = l.changes ++ drop l.change-index l.more ≡ l.initial.changes ++ l.more
