use Rattle.std.proofs.Common.{◌≡◌, ◌++◌, take}
use Rattle.std.specs.Prelude.{flat_map, option_copied}
use Rattle.counter_index.specs.Touched.{touched_by}
use Rattle.counter_index.proofs.touched.put_all_touched_by.Given as goal

abbrev pub invariant-loop-change : goal.invariant-loop-change
invariant-loop-change l = l.keys ≡ l.fn.keys ++ flat_map (touched_by l.index (option_copied l.now) (option_copied l.was)) (take l.change-index l.changes)
