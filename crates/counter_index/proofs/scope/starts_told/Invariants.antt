use Rattle.std.proofs.Common.{◌≡◌, take}
use Rattle.counter_index.specs.Indexes.{countings, told_by_scope, with_values}
use Rattle.counter_index.proofs.scope.starts_told.Given as goal

abbrev pub invariant-loop-start : goal.invariant-loop-start
invariant-loop-start l = l.told ≡ with_values (told_by_scope (countings l.deeds.held) l.arena.tree) (take l.start-index l.asked)
