use Rattle.style_reach.proofs.WithinLaws.{within-by-children}
use Rattle.style_reach.proofs.laws.inclusive_descendants_are_under_a_node.Goals as goal

pub returns : goal.returns
returns c = record { within = within-by-children }
