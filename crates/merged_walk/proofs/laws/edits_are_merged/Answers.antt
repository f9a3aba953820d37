use Rattle.merged_walk.proofs.LawLemmas.{insertions_merge, moves_merge, relabellings_merge, removals_merge}
use Rattle.merged_walk.proofs.laws.edits_are_merged.Goals as goal

pub returns : goal.returns
returns g c = record { removals = removals_merge _; relabellings = relabellings_merge _; insertions = insertions_merge _; moves = moves_merge _ }
