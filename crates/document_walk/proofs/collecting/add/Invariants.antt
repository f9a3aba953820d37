use Rattle.std.proofs.Common.{◌≡◌, ◌++◌, take}
use Rattle.document_walk.proofs.collecting.add.Given as goal

abbrev pub invariant-loop-change : goal.invariant-loop-change
invariant-loop-change l = l.changes ≡ l.fn.changes ++ take l.change-index l.more
