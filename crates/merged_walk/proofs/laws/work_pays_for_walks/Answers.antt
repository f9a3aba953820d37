use Rattle.merged_walk.proofs.LawLemmas.{insertions_are_paid, moves_are_paid, relabellings_are_paid, removals_are_paid, whole_documents_cost}
use Rattle.merged_walk.proofs.laws.work_pays_for_walks.Goals as goal

pub returns : goal.returns
returns g c = record {
  removals = removals_are_paid _ _ _;
  relabellings = relabellings_are_paid _ _ _;
  insertions = insertions_are_paid _ _ _;
  moves = moves_are_paid _ _ _;
  whole = whole_documents_cost _ _ _;
}
