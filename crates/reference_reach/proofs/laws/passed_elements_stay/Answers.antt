use Rattle.reference_reach.proofs.LawLemmas.{passed_are_told_the_same}
use Rattle.reference_reach.proofs.laws.passed_elements_stay.Goals as goal

pub returns : goal.returns
returns c = record { passed = passed_are_told_the_same }
