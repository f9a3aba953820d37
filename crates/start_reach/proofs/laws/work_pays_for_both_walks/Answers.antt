use Rattle.start_reach.proofs.WorkLemmas.{both_walks_are_paid, other_starts_differ, places_are_paid, second_walks_are_few}
use Rattle.start_reach.proofs.laws.work_pays_for_both_walks.Goals as goal

pub returns : goal.returns
returns c = record { differ = other_starts_differ; few = second_walks_are_few; places = places_are_paid; both = both_walks_are_paid }
