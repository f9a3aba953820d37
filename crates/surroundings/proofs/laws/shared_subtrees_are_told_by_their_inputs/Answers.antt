use Rattle.surroundings.proofs.SharedLaws.{shared_subtrees}
use Rattle.surroundings.proofs.laws.shared_subtrees_are_told_by_their_inputs.Goals as goal

pub returns : goal.returns
returns c = record { shared = shared_subtrees }
