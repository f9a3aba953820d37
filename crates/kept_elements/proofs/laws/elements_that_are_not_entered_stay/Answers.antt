use Rattle.kept_elements.proofs.PassedLemmas.{passed_elements_stay}
use Rattle.kept_elements.proofs.laws.elements_that_are_not_entered_stay.Goals as goal

pub returns : goal.returns
returns c = record { passed = passed_elements_stay }
