use Rattle.std.proofs.Common.{◌≡◌, drop}
use Rattle.std.specs.Str.{chars}
use Rattle.scope_reading.specs.ScopeChanges.{has_it}
use Rattle.counter_index.proofs.scope.has_counter.Given as goal

abbrev pub invariant-loop-counter : goal.invariant-loop-counter
invariant-loop-counter l = has_it l.creator (chars l.name) (drop l.counter-index l.counter-items) ≡ has_it l.creator (chars l.name) l.set
