use Rattle.std.proofs.Common.{refl, true}
use Rattle.box_eval.specs.Elements.{at_root}
use Rattle.box_eval.proofs.DocumentLemmas.{root_level, same_for, told, with_earlier}
use Rattle.box_eval.proofs.laws.parents_tell_scopes.Goals as goal

pub returns : goal.returns
returns c = record {
  scoped = λ table document distinct. (told table document true at_root distinct (root_level document)).scoped;
  told = λ table document distinct.
      let both = told table document true at_root distinct (root_level document) in
      record { records = both.records; changes = both.changes; box_changes = both.box_changes; inputs = both.inputs };
  no_peers = λ table trees boxed handed earlier.
      let same = same_for table trees boxed handed (with_earlier handed earlier) (earlier, refl) in
      record { records = same.records; changes = same.changes; box_changes = same.box_changes; inputs = same.inputs };
}
