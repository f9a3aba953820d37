use Rattle.std.proofs.Common.{take}
use Rattle.box_eval.specs.Groups.{AreGrouped}
use Rattle.box_eval.proofs.changed_starts.ChangedStarts.of.Given as goal

abbrev pub invariant-loop-change : goal.invariant-loop-change
invariant-loop-change l = AreGrouped (take l.change-index l.changes) l.groups
