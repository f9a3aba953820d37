use Rattle.turned_stops.proofs.LawLemmas.{stays_is_not_coming}
use Rattle.turned_stops.proofs.laws.elements_stay_or_come.Goals as goal

pub returns : goal.returns
returns c = record { stays = stays_is_not_coming }
