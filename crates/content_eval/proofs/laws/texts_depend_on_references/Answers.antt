use Rattle.content_eval.proofs.ReferenceLemmas.{flat_depends, full_depends}
use Rattle.content_eval.proofs.laws.texts_depend_on_references.Goals as goal

pub returns : goal.returns
returns c = record {
  flat = flat_depends;
  full = full_depends;
}
