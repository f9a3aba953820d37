use Rattle.std.proofs.Common.{length}
use Rattle.reading.proofs.Runs.{Goes}
use Rattle.css_values.specs.Parts.{solid}
use Rattle.css_values.specs.Lists.{counter_op_at}
use Rattle.css_values.proofs.counters.counter_op_run.Given as goal

abbrev pub invariant-pieces : goal.invariant-pieces
invariant-pieces l = Goes (counter_op_at l.missing) (solid l.tokens) l.ops (solid l.rest)

abbrev pub decreases-pieces : goal.decreases-pieces
decreases-pieces l = length (solid l.rest)
