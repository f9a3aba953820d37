use Rattle.dirty_walk.proofs.PlannedLemmas.{planned_entry}
use Rattle.dirty_walk.proofs.laws.plans_put_what_differs.Goals as goal

pub returns : goal.returns
returns c = record { puts = λ edit old book plan key from live. planned_entry edit old book plan from key live }
