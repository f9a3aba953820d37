use Rattle.std.proofs.Common.{◌≡◌, ◌++◌, drop}
use Rattle.plain_types.specs.declared.selector_parts.PseudoElement.TheVariants.{Own}
use Rattle.mini_cascade.specs.Declarations.{attached}
use Rattle.mini_cascade.proofs.applicable.add_attached.Given as goal

abbrev pub invariant-loop-declared : goal.invariant-loop-declared
invariant-loop-declared l = l.list ++ attached Own (drop l.declared-index l.inline) ≡ l.initial.list ++ attached Own l.inline
