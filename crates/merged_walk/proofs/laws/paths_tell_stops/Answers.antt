use Rattle.merged_walk.proofs.LawLemmas.{insertions_stop, moves_stop, relabellings_stop, removals_stop, turned_nodes_stop}
use Rattle.merged_walk.proofs.laws.paths_tell_stops.Goals as goal

pub returns : goal.returns
returns g c = record {
  removals = removals_stop _;
  relabellings = relabellings_stop _;
  insertions = insertions_stop _;
  moves = moves_stop _;
  turned = turned_nodes_stop _;
}
