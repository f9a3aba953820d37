use Rattle.std.proofs.Common.{None, true}
use Rattle.box_eval.specs.Elements.{at_root}
use Rattle.box_eval.specs.Starts.{document_starts}
use Rattle.box_eval.proofs.AskingLemmas.{same_trees}
use Rattle.box_eval.proofs.laws.no_start_matters_where_none_is_asked.Goals as goal

pub returns : goal.returns
returns c = record {
  unasked = λ table style document none. (same_trees table style (document_starts table style document) document None true at_root none).records;
}
