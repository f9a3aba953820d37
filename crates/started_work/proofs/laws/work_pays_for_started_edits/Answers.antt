use Rattle.started_work.proofs.LawLemmas.{started_edits_are_paid}
use Rattle.started_work.proofs.laws.work_pays_for_started_edits.Goals as goal

pub returns : goal.returns
returns c = record { paid = started_edits_are_paid }
