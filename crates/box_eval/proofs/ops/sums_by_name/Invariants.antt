use Rattle.std.proofs.Common.{◌≡◌, ℕ, List, pos, take}
use Rattle.std.specs.Prelude.{unwrap_or}
use Rattle.counter_sets.specs.ByNames.{value_of}
use Rattle.box_eval.specs.Properties.{sum_for}
use Rattle.box_eval.proofs.ops.sums_by_name.Given as goal

abbrev pub invariant-loop-op : goal.invariant-loop-op
invariant-loop-op l = (name : List ℕ) → unwrap_or (value_of l.sums name) (pos 0) ≡ sum_for name (take l.op-index l.ops)
