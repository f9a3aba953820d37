use Rattle.reference_reach.proofs.LawLemmas.{targets_agree, targets_agree_below}
use Rattle.reference_reach.proofs.laws.known_targets_agree.Goals as goal

pub returns : goal.returns
returns c = record { below = targets_agree_below; whole = targets_agree }
