use Rattle.std.proofs.Common.{◌≡◌}
use Rattle.benchmarks.proofs.element_styles.styles_of.Given as goal

abbrev pub invariant-loop-key : goal.invariant-loop-key
invariant-loop-key g l = l.siblings ≡ l.arena.tree
