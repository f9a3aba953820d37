use Rattle.reference_reach.proofs.LawLemmas.{entered_are_live, others_keep_targets, stops_tell_entered, targets_stay, trees_under_stay}
use Rattle.reference_reach.proofs.laws.targets_stay.Goals as goal

pub returns : goal.returns
returns c = record { targets = targets_stay; under = trees_under_stay; others = others_keep_targets; stops = stops_tell_entered; live = entered_are_live }
