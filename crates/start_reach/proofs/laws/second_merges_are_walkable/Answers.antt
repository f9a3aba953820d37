use Rattle.start_reach.proofs.LawLemmas.{second_merges_are_started, second_merges_are_walkable}
use Rattle.start_reach.proofs.StartedLaws.{asked_starts_are_enough, unturned_are_enough}
use Rattle.start_reach.proofs.laws.second_merges_are_walkable.Goals as goal

pub returns : goal.returns
returns c = record { started = second_merges_are_started; asked = asked_starts_are_enough; unturned = unturned_are_enough; walkable = second_merges_are_walkable }
