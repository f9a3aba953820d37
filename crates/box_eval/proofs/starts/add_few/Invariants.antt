use Rattle.std.proofs.Common.{◌≡◌, ◌++◌, length}
use Rattle.box_eval.proofs.NeededStarts.{starts_for}
use Rattle.box_eval.proofs.starts.add_few.Given as goal

abbrev pub invariant-loop-reset : goal.invariant-loop-reset
invariant-loop-reset g l = l.all ++ starts_for (g.T.Starts.starts l.starts) l.creator l.rest ≡ l.fn.all ++ starts_for (g.T.Starts.starts l.starts) l.creator l.style.resets

abbrev pub decreases-loop-reset : goal.decreases-loop-reset
decreases-loop-reset g l = length l.rest
