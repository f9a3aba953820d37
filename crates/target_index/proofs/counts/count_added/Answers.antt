use Rattle.std.proofs.Common.{sym, arith}
use Rattle.std.specs.Str.{chars}
use Rattle.target_index.proofs.CountLemmas.{counts_added, counts_none, few_added}
use Rattle.target_index.proofs.counts.count_added.Goals as goal
use Rattle.target_index.proofs.counts.count_added.Goals.{in-Some+in_ok-add, in_default}

pub add-requires : goal.add-requires
add-requires c = record {
  few = omega (arith, c.loop-change.invariant (chars c.in-Some.id.now), few_added c.args.relation c.args.changes.now (chars c.in-Some.id.now));
}

pub loop-change-preserved : goal.loop-change-preserved
loop-change-preserved c id = elim c.match-added_id.branch [
  | in-Some+in_ok-add w ↦
      rw w.counts-is (omega (
        arith,
        c.loop-change.invariant id,
        w.in_ok-add.ensures.ok id,
        counts_added c.args.relation c.args.changes.now c.loop-change.change-index c.change-item.result c.loop-change-test.true c.change-item.is (chars w.in-Some.id.now) (sym w.in-Some.ensures.id) id,
      ))
  | in_default w ↦
      rw w.counts-is (omega (
        arith,
        c.loop-change.invariant id,
        counts_none c.args.relation c.args.changes.now c.loop-change.change-index c.change-item.result c.loop-change-test.true c.change-item.is (sym w.in_default.ensures.id) id,
      ))
]
