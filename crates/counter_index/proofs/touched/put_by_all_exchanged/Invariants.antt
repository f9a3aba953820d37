use Rattle.std.proofs.Common.{◌≡◌, ◌++◌, take}
use Rattle.std.specs.Prelude.{flat_map}
use Rattle.counter_index.specs.Touched.{by_exchanged}
use Rattle.counter_index.proofs.touched.put_by_all_exchanged.Given as goal

abbrev pub invariant-loop-entry : goal.invariant-loop-entry
invariant-loop-entry l = l.keys ≡ l.fn.keys ++ flat_map (by_exchanged l.index) (take l.entry-index l.former)
