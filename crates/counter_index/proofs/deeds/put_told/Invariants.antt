use Rattle.std.proofs.Common.{◌≡◌, ◌++◌, drop}
use Rattle.counter_index.specs.Told.{all_deeds_kept}
use Rattle.counter_index.proofs.deeds.put_told.Given as goal

abbrev pub invariant-loop-key : goal.invariant-loop-key
invariant-loop-key l = l.entries.items ++ all_deeds_kept (drop l.key-index l.told) ≡ l.initial.entries.items ++ all_deeds_kept l.told
