use Rattle.std.proofs.Common.{◌≡◌, ◌++◌, take}
use Rattle.std.specs.Prelude.{flat_map}
use Rattle.counter_index.specs.Touched.{by_moved}
use Rattle.counter_index.proofs.touched.put_by_all_moved.Given as goal

abbrev pub invariant-loop-key : goal.invariant-loop-key
invariant-loop-key l = l.keys ≡ l.fn.keys ++ flat_map (by_moved l.index) (take l.key-index l.moved)
