use Rattle.std.proofs.Common.{length}
use Rattle.css_values.specs.Parts.{solid, after_comma_at}
use Rattle.css_values.specs.Descriptors.{weight_at}
use Rattle.css_values.proofs.Listing.{Lists}
use Rattle.css_values.proofs.descriptors.all_weights.Given as goal

abbrev pub invariant-pieces : goal.invariant-pieces
invariant-pieces l = Lists (after_comma_at weight_at) l.fn.first (solid l.tokens) l.all (solid l.rest)

abbrev pub decreases-pieces : goal.decreases-pieces
decreases-pieces l = length (solid l.rest)
