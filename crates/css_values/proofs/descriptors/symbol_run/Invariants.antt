use Rattle.std.proofs.Common.{length}
use Rattle.reading.proofs.Runs.{Goes}
use Rattle.css_values.specs.Parts.{solid, symbol_at}
use Rattle.css_values.proofs.descriptors.symbol_run.Given as goal

abbrev pub invariant-pieces : goal.invariant-pieces
invariant-pieces l = Goes symbol_at (solid l.tokens) l.symbols (solid l.rest)

abbrev pub decreases-pieces : goal.decreases-pieces
decreases-pieces l = length (solid l.rest)
