use Rattle.std.proofs.Common.{◌≡◌, take}
use Rattle.counter_index.proofs.deeds.same_starts.Given as goal

abbrev pub invariant-loop-start : goal.invariant-loop-start
invariant-loop-start l = record { same : l.same ≡ take l.start-index l.starts }
