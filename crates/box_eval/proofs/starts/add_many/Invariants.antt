use Rattle.std.proofs.Common.{◌≡◌, ◌++◌, drop}
use Rattle.box_eval.proofs.NeededStarts.{starts_for}
use Rattle.box_eval.proofs.starts.add_many.Given as goal

abbrev pub invariant-loop-place : goal.invariant-loop-place
invariant-loop-place g l = l.all ++ starts_for (g.T.Starts.starts l.starts) l.creator (drop l.place l.resets) ≡ l.fn.all ++ starts_for (g.T.Starts.starts l.starts) l.creator l.resets
