use Rattle.std.proofs.Common.{◌≡◌, ◌++◌, drop}
use Rattle.plain_types.specs.declared.selector_parts.PseudoElement.TheVariants.{Own}
use Rattle.mini_cascade.specs.Declarations.{hinted}
use Rattle.mini_cascade.proofs.applicable.add_hints.Given as goal

abbrev pub invariant-loop-hint : goal.invariant-loop-hint
invariant-loop-hint l = l.list ++ hinted Own (drop l.hint-index l.hints) ≡ l.initial.list ++ hinted Own l.hints
