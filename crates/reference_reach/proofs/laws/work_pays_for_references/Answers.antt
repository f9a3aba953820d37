use Rattle.reference_reach.proofs.LawLemmas.{entered_are_placed, referring_is_paid}
use Rattle.reference_reach.proofs.laws.work_pays_for_references.Goals as goal

pub returns : goal.returns
returns c = record { referring = referring_is_paid; entered = entered_are_placed }
