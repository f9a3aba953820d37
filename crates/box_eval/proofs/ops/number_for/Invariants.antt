use Rattle.std.proofs.Common.{◌≡◌, drop}
use Rattle.std.specs.Str.{chars}
use Rattle.box_eval.specs.Properties.{number_for}
use Rattle.box_eval.proofs.ops.number_for.Given as goal

abbrev pub invariant-loop-op : goal.invariant-loop-op
invariant-loop-op l = number_for (chars l.name) (drop l.op-index l.ops) ≡ number_for (chars l.name) l.ops
