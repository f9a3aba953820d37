use Rattle.counter_index.specs.Touched.{asking}
use Rattle.counter_index.proofs.ListLemmas.{flat-turn}
use Rattle.counter_index.proofs.touched.put_all_asking.Goals as goal

pub loop-change-preserved : goal.loop-change-preserved
loop-change-preserved c =
    flat-turn (asking c.args.index.now) c.args.keys.now c.loop-change.keys c.put_asking.new.keys c.args.changes.now c.loop-change.change-index c.change-item.result
    c.loop-change-test.true c.change-item.is c.loop-change.invariant c.in_ok-put_asking.ensures.ok
