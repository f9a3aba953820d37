use Rattle.std.proofs.Common.{true, ap, sym}
use Rattle.box_eval.specs.Elements.{at_root, by_peers}
use Rattle.box_eval.specs.Starts.{document_starts, no_starts, starts_by}
use Rattle.box_eval.proofs.BoxChangeLemmas.{changes_of_boxes}
use Rattle.box_eval.proofs.StartLemmas.{same_box_changes_with, same_changes_with}
use Rattle.box_eval.proofs.laws.starts_keep_changes.Goals as goal

pub returns : goal.returns
returns c = record {
  boxes = λ table style start document. same_box_changes_with table style start no_starts document;
  together = λ table document. changes_of_boxes table by_peers document true at_root;
  changes = λ table style start document. same_changes_with table style start no_starts document;
  own = λ table style document. ap starts_by (sym (same_changes_with table style (document_starts table style document) no_starts document));
}
