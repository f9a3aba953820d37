use Rattle.std.proofs.Common.{◌∙◌}
use Rattle.kept_elements.proofs.StoppedLemmas.{stopped_at}
use Rattle.kept_elements.proofs.again.put_all_again.Goals as goal

pub returns-in_err-put_again-clause-err : goal.returns-in_err-put_again-clause-err
returns-in_err-put_again-clause-err c = stopped_at c.from_residual.result _ c.loop-key.key-index (c.in_err-put_again.ensures.err ∙ c.loop-key.invariant.made)
