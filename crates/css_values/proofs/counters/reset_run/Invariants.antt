use Rattle.std.proofs.Common.{length}
use Rattle.reading.proofs.Runs.{Goes}
use Rattle.css_values.specs.Parts.{solid}
use Rattle.css_values.specs.Lists.{reset_at}
use Rattle.css_values.proofs.counters.reset_run.Given as goal

abbrev pub invariant-pieces : goal.invariant-pieces
invariant-pieces l = Goes reset_at (solid l.tokens) l.resets (solid l.rest)

abbrev pub decreases-pieces : goal.decreases-pieces
decreases-pieces l = length (solid l.rest)
