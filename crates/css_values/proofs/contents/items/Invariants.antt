use Rattle.std.proofs.Common.{length}
use Rattle.reading.proofs.Runs.{Goes}
use Rattle.css_values.specs.Parts.{solid}
use Rattle.css_values.specs.Contents.{item_at}
use Rattle.css_values.proofs.contents.items.Given as goal

abbrev pub invariant-pieces : goal.invariant-pieces
invariant-pieces l = Goes item_at (solid l.tokens) l.items (solid l.rest)

abbrev pub decreases-pieces : goal.decreases-pieces
decreases-pieces l = length (solid l.rest)
