use Rattle.std.proofs.Common.{◌∙◌}
use Rattle.snapshot_board.specs.Records.{put_all}
use Rattle.started_walk.proofs.zeros.zeros_told.Goals as goal

pub returns : goal.returns
returns c = record {
  held = c.bring.ensures.held ∙ (λ i. put_all (c.in_ok-walked.ensures.walked i) ((c.zeros_of.ensures.held ∙ c.new-zeros.ensures.held) i));
}
