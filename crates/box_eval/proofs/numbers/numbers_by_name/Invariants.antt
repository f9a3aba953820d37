use Rattle.std.proofs.Common.{◌≡◌, ℕ, List, take}
use Rattle.counter_sets.specs.ByNames.{value_of}
use Rattle.box_eval.specs.Properties.{number_for}
use Rattle.box_eval.proofs.numbers.numbers_by_name.Given as goal

abbrev pub invariant-loop-op : goal.invariant-loop-op
invariant-loop-op l = (name : List ℕ) → value_of l.numbers name ≡ number_for name (take l.op-index l.ops)
