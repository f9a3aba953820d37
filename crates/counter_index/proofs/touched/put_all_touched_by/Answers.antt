use Rattle.std.specs.Prelude.{option_copied}
use Rattle.counter_index.specs.Touched.{touched_by}
use Rattle.counter_index.proofs.ListLemmas.{flat-turn}
use Rattle.counter_index.proofs.touched.put_all_touched_by.Goals as goal

pub loop-change-preserved : goal.loop-change-preserved
loop-change-preserved c =
    flat-turn (touched_by c.args.index.now (option_copied c.args.now) (option_copied c.args.was)) c.args.keys.now c.loop-change.keys c.put_touched_by.new.keys c.args.changes.now c.loop-change.change-index c.change-item.result
    c.loop-change-test.true c.change-item.is c.loop-change.invariant c.in_ok-put_touched_by.ensures.ok
