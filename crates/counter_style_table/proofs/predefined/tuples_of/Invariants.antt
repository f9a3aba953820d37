use Rattle.std.proofs.Common.{◌≡◌, map, take}
use Rattle.counter_style_table.specs.Predefined.{tuple_of}
use Rattle.counter_style_table.proofs.predefined.tuples_of.Given as goal

abbrev pub invariant-loop-weight : goal.invariant-loop-weight
invariant-loop-weight l = l.weights ≡ map tuple_of (take l.weight-index l.tuples)
