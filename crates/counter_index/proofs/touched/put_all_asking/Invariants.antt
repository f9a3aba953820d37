use Rattle.std.proofs.Common.{◌≡◌, ◌++◌, take}
use Rattle.std.specs.Prelude.{flat_map}
use Rattle.counter_index.specs.Touched.{asking}
use Rattle.counter_index.proofs.touched.put_all_asking.Given as goal

abbrev pub invariant-loop-change : goal.invariant-loop-change
invariant-loop-change l = l.keys ≡ l.fn.keys ++ flat_map (asking l.index) (take l.change-index l.changes)
