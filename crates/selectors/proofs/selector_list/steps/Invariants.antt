use Rattle.std.proofs.Common.{length}
use Rattle.selectors.proofs.Stepping.{Leads}
use Rattle.selectors.proofs.selector_list.steps.Given as goal

abbrev pub invariant-pieces : goal.invariant-pieces
invariant-pieces l = Leads l.text l.fn.first l.tokens l.compounds l.joins l.rest

abbrev pub decreases-pieces : goal.decreases-pieces
decreases-pieces l = length l.rest
