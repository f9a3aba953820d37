use Rattle.edit_work.proofs.LawLemmas.{own_reach_is_paid, whole_reach_is_paid}
use Rattle.edit_work.proofs.laws.work_pays.Goals as goal

pub returns : goal.returns
returns c = record { own = own_reach_is_paid; whole = whole_reach_is_paid }
