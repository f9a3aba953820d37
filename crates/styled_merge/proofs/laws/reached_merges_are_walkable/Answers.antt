use Rattle.styled_merge.proofs.StopLemmas.{reaches_are_walkable, styled_reaches_are_walkable}
use Rattle.styled_merge.proofs.laws.reached_merges_are_walkable.Goals as goal

pub returns : goal.returns
returns c = record { plain = reaches_are_walkable; styled = styled_reaches_are_walkable }
