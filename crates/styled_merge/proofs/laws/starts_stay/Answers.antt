use Rattle.styled_merge.proofs.LawLemmas.{box_starts_are_enough, starts_are_their_own}
use Rattle.styled_merge.proofs.laws.starts_stay.Goals as goal

pub returns : goal.returns
returns c = record { boxes = box_starts_are_enough; own = starts_are_their_own }
