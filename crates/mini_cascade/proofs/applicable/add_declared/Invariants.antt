use Rattle.std.proofs.Common.{◌≡◌, ◌++◌, drop}
use Rattle.mini_cascade.specs.Declarations.{declared_with}
use Rattle.mini_cascade.proofs.applicable.add_declared.Given as goal

abbrev pub invariant-loop-declared : goal.invariant-loop-declared
invariant-loop-declared l =
    l.list ++ declared_with l.pseudo l.origin (drop l.declared-index l.block) l.specificity
    ≡ l.initial.list ++ declared_with l.pseudo l.origin l.block l.specificity
