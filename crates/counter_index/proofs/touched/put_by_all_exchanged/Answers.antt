use Rattle.counter_index.specs.Touched.{by_exchanged}
use Rattle.counter_index.proofs.ListLemmas.{flat-turn}
use Rattle.counter_index.proofs.touched.put_by_all_exchanged.Goals as goal

pub loop-entry-preserved : goal.loop-entry-preserved
loop-entry-preserved c =
    flat-turn (by_exchanged c.args.index.now) c.args.keys.now c.loop-entry.keys c.put_by_exchanged.new.keys c.args.former.now c.loop-entry.entry-index c.entry-item.result
    c.loop-entry-test.true c.entry-item.is c.loop-entry.invariant c.in_ok-put_by_exchanged.ensures.ok
