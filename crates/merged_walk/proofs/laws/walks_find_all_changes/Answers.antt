use Rattle.merged_walk.proofs.LawLemmas.{turns_leave_less, walks_find_all_changes}
use Rattle.merged_walk.proofs.laws.walks_find_all_changes.Goals as goal

pub returns : goal.returns
returns g c = record { found = walks_find_all_changes _ _ _; less = turns_leave_less _ _ _ }
