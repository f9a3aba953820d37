use Rattle.styled_merge.proofs.LawLemmas.{new_forests_are_styled, old_forests_are_styled, styled_merges_keep_shape}
use Rattle.styled_merge.proofs.laws.merges_are_styled.Goals as goal

pub returns : goal.returns
returns c = record { old = old_forests_are_styled; new = new_forests_are_styled; shape = styled_merges_keep_shape }
