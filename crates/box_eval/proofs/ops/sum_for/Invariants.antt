use Rattle.std.proofs.Common.{◌≡◌, drop}
use Rattle.std.specs.Prelude.{filter}
use Rattle.std.specs.List.{fold}
use Rattle.std.specs.Str.{chars}
use Rattle.plain_types.specs.Counts.{count_sum}
use Rattle.plain_types.specs.declared.style.CounterOp.{CounterOp}
use Rattle.box_eval.specs.Properties.{is_for, sum_for}
use Rattle.box_eval.proofs.ops.sum_for.Given as goal

abbrev pub invariant-loop-op : goal.invariant-loop-op
invariant-loop-op l = fold (λ sum (op : CounterOp). count_sum sum op.value) l.sum (filter (is_for (chars l.name)) (drop l.op-index l.ops)) ≡ sum_for (chars l.name) l.ops
