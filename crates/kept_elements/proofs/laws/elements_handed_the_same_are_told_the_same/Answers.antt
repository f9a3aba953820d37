use Rattle.kept_elements.proofs.KeptTold.{styled_merges_keep_told}
use Rattle.kept_elements.proofs.laws.elements_handed_the_same_are_told_the_same.Goals as goal

pub returns : goal.returns
returns c = record { told = styled_merges_keep_told }
