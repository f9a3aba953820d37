use Rattle.std.proofs.Common.{◌≡◌, drop, pos}
use Rattle.std.specs.List.{find}
use Rattle.std.specs.Ordering.{int_eq}
use Rattle.plain_types.specs.declared.counter_style.Weight.{Weight}
use Rattle.representation.proofs.initial.zero_symbol.Given as goal

abbrev pub invariant-loop-tuple : goal.invariant-loop-tuple
invariant-loop-tuple l =
    find (λ (tuple : Weight). int_eq tuple.weight (pos 0)) (drop l.tuple-index l.tuples) ≡ find (λ (tuple : Weight). int_eq tuple.weight (pos 0)) l.tuples
