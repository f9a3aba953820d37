use Rattle.touched_starts.proofs.MovedLemmas.{gone_are_moved}
use Rattle.touched_starts.proofs.laws.gone_elements_are_moved.Goals as goal

pub returns : goal.returns
returns c = record { gone = gone_are_moved }
