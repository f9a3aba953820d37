use Rattle.edit_work.proofs.ReachedLemmas.{nodes_reached_are_paid}
use Rattle.edit_work.proofs.laws.work_pays_for_reached_nodes.Goals as goal

pub returns : goal.returns
returns c = record { reached = nodes_reached_are_paid }
