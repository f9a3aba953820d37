use Rattle.touched_starts.proofs.AskedLemmas.{second_merges_are_asked, starts_are_asked}
use Rattle.touched_starts.proofs.laws.starts_are_asked.Goals as goal

pub returns : goal.returns
returns c = record { styled = starts_are_asked; merges = second_merges_are_asked }
