use Rattle.touched_starts.proofs.TurnedLemmas.{turned_are_told}
use Rattle.touched_starts.proofs.laws.turned_elements_are_told.Goals as goal

pub returns : goal.returns
returns c = record { turned = turned_are_told }
