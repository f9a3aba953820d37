use Rattle.edit_merge.proofs.JoiningLaws.{others-ended}
use Rattle.edit_merge.proofs.joining.common_count.Goals as goal

pub returns-else-count-others-clause-joined : goal.returns-else-count-others-clause-joined
returns-else-count-others-clause-joined c = others-ended c.args.stops.now c.args.others.now c.common.count c.common.invariant c.if-count-others.false
