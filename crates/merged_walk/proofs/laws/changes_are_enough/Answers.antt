use Rattle.merged_walk.proofs.LawLemmas.{changes_are_enough}
use Rattle.merged_walk.proofs.laws.changes_are_enough.Goals as goal

pub returns : goal.returns
returns g c = record { enough = changes_are_enough _ }
