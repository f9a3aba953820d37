use Rattle.std.proofs.Common.{length}
use Rattle.reading.proofs.Runs.{Goes}
use Rattle.css_values.specs.Parts.{solid, string_at}
use Rattle.css_values.proofs.styles.strings.Given as goal

abbrev pub invariant-pieces : goal.invariant-pieces
invariant-pieces l = Goes string_at (solid l.tokens) l.strings (solid l.rest)

abbrev pub decreases-pieces : goal.decreases-pieces
decreases-pieces l = length (solid l.rest)
