use Rattle.std.proofs.Common.{◌≡◌}
use Rattle.benchmarks.proofs.cascade.style_all.Given as goal

abbrev pub invariant-loop-index : goal.invariant-loop-index
invariant-loop-index g l = l.siblings ≡ l.arena.tree
