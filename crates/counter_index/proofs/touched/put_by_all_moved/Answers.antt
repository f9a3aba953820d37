use Rattle.std.proofs.Common.{get_or}
use Rattle.std.proofs.lemmas.List.{get_or_default}
use Rattle.counter_index.specs.Touched.{by_moved}
use Rattle.counter_index.proofs.ListLemmas.{flat-turn}
use Rattle.counter_index.proofs.touched.put_by_all_moved.Goals as goal

pub loop-key-preserved : goal.loop-key-preserved
loop-key-preserved c =
    let key = get_or c.args.moved.now c.loop-key.key-index 0 in
    flat-turn (by_moved c.args.index.now) c.args.keys.now c.loop-key.keys c.put_by_moved.new.keys c.args.moved.now c.loop-key.key-index key
    c.loop-key-test.true (get_or_default c.args.moved.now c.loop-key.key-index 0 key c.loop-key-test.true) c.loop-key.invariant c.in_ok-put_by_moved.ensures.ok
