use Rattle.box_eval.proofs.DocumentLemmas.{differs_in_earlier, same_for}
use Rattle.box_eval.proofs.laws.shared_trees_are_told_by_what_they_are_handed.Goals as goal

pub returns : goal.returns
returns c = record {
  shared = λ table trees boxed first second parent sibling preceding depth.
      (same_for table trees boxed first second (differs_in_earlier first second parent sibling preceding depth)).records;
}
