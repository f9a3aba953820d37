use Rattle.std.proofs.Common.{◌≡◌, drop}
use Rattle.counter_sets.specs.Sets.{is_missing_in}
use Rattle.box_eval.specs.Properties.{assigned_all}
use Rattle.box_eval.proofs.counting_many.assign_all.Given as goal

abbrev pub invariant-loop-op : goal.invariant-loop-op
invariant-loop-op l = assigned_all (is_missing_in l.place.parent) l.place.creator (drop l.op-index l.assigns) l.set ≡ assigned_all (is_missing_in l.place.parent) l.place.creator l.assigns l.fn.set
