use Rattle.zero_walks.proofs.LawLemmas.{what_is_told_is_kept}
use Rattle.zero_walks.proofs.laws.what_is_told_is_kept.Goals as goal

pub returns : goal.returns
returns c = record { kept = what_is_told_is_kept }
