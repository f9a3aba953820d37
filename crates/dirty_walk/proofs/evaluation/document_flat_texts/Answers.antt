use Rattle.std.proofs.Common.{◌∙◌}
use Rattle.std.proofs.lemmas.Result.{IfOk-weaker}
use Rattle.kept_elements.proofs.KnownLemmas.{all_same}
use Rattle.dirty_walk.proofs.evaluation.document_flat_texts.Goals as goal

pub returns : goal.returns
returns c =
    let records = c.args.records.now in
    record {
      texts = IfOk-weaker c.all_flat_texts.result _ _
          (λ texts are. are ∙ all_same c.args.table.now c.args.named.now.arena.now.tree records c.no_reference_is_circular.ensures.flat c.as_slice.result.now records)
          c.all_flat_texts.ensures.texts;
    }
