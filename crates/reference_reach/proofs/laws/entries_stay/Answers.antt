use Rattle.reference_reach.proofs.LawLemmas.{entries_stay}
use Rattle.reference_reach.proofs.laws.entries_stay.Goals as goal

pub returns : goal.returns
returns c = record { entries = entries_stay }
