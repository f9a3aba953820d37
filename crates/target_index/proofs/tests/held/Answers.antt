use Rattle.std.proofs.Common.{ap}
use Rattle.std.specs.Str.{chars}
use Rattle.target_index.specs.declared.change.IndexChange.TheVariants.{Hold}
use Rattle.target_index.proofs.tests.held.Goals as goal

pub returns : goal.returns
unfolding chars
returns c = record { change = ap (λ id. Hold id 1) c.in_ok-id.ensures.characters }
