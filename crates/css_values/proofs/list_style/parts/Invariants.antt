use Rattle.std.proofs.Common.{length}
use Rattle.reading.proofs.Runs.{Goes}
use Rattle.css_values.specs.Parts.{solid}
use Rattle.css_values.specs.Lists.{part_at}
use Rattle.css_values.proofs.list_style.parts.Given as goal

abbrev pub invariant-pieces : goal.invariant-pieces
invariant-pieces l = Goes part_at (solid l.tokens) l.parts (solid l.rest)

abbrev pub decreases-pieces : goal.decreases-pieces
decreases-pieces l = length (solid l.rest)
