use Rattle.std.proofs.Common.{length}
use Rattle.reading.proofs.Runs.{Goes}
use Rattle.css_values.specs.Parts.{solid}
use Rattle.css_values.specs.Contents.{pair_at}
use Rattle.css_values.proofs.quotes.pairs.Given as goal

abbrev pub invariant-pieces : goal.invariant-pieces
invariant-pieces l = Goes pair_at (solid l.tokens) l.pairs (solid l.rest)

abbrev pub decreases-pieces : goal.decreases-pieces
decreases-pieces l = length (solid l.rest)
