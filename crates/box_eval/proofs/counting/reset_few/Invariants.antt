use Rattle.std.proofs.Common.{◌≡◌, length}
use Rattle.counter_sets.specs.Sets.{AreDistinct, is_missing_in}
use Rattle.box_eval.specs.Properties.{after_resets}
use Rattle.box_eval.proofs.ResetLemmas.{LacksAll}
use Rattle.box_eval.proofs.counting.reset_few.Given as goal

abbrev pub invariant-loop-op : goal.invariant-loop-op
invariant-loop-op l = record {
  same : after_resets (is_missing_in l.place.parent) l.place.creator l.starts l.rest l.set ≡ after_resets (is_missing_in l.place.parent) l.place.creator l.starts l.resets l.place.set;
  lacks : LacksAll l.place.creator l.starts l.rest l.set;
  distinct : AreDistinct l.set;
}

abbrev pub decreases-loop-op : goal.decreases-loop-op
decreases-loop-op l = length l.rest
