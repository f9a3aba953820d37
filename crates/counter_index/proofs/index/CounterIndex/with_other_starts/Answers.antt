use Rattle.std.proofs.Common.{[]}
use Rattle.counter_index.specs.Retold.{other_key}
use Rattle.counter_index.proofs.ListLemmas.{flat-turn}
use Rattle.counter_index.proofs.index.CounterIndex.with_other_starts.Goals as goal

pub loop-entry-preserved : goal.loop-entry-preserved
loop-entry-preserved c =
    flat-turn (other_key c.args.self.now) [] c.loop-entry.keys c.put_other.new.keys c.args.former.now c.loop-entry.entry-index c.entry-item.result
    c.loop-entry-test.true c.entry-item.is c.loop-entry.invariant c.in_ok-put_other.ensures.ok
