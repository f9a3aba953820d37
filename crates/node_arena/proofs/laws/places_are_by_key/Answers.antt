use Rattle.forest.proofs.PlaceLaws.{keys-places, paths-places}
use Rattle.node_arena.proofs.EntryLaws.{one-tree}
use Rattle.node_arena.proofs.laws.places_are_by_key.Goals as goal

pub returns : goal.returns
returns c = record {
  places = λ tree document. record {
    in_order = keys-places tree (one-tree tree document);
    by_path = paths-places tree document.distinct (one-tree tree document);
  };
}
