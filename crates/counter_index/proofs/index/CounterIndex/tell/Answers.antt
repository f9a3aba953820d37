use Rattle.std.proofs.Common.{◌∙◌}
use Rattle.counter_index.proofs.IndexLemmas.{all_told_again}
use Rattle.counter_index.proofs.index.CounterIndex.tell.Goals as goal

pub returns : goal.returns
returns c = record {
  starts = λ table style keeps.
      c.in_ok-told.ensures.told
      ∙ all_told_again table style c.args.arena.now.tree c.args.self.now c.arena_holds_document.ensures.document.distinct keeps c.args.keys.now;
}
