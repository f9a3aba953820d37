use Rattle.counter_index.proofs.ExchangeLemmas.{slot_inside, turned}
use Rattle.counter_index.proofs.slots.exchange_all.Goals as goal

pub exchange_one-requires : goal.exchange_one-requires
exchange_one-requires g c = record {
  room =
      slot_inside c.args.entries.now c.args.slots.now.items c.loop-entry.entries c.loop-entry.slots.items c.loop-entry.entry-index
      c.loop-entry-test.true c.loop-entry.invariant.turn c.entry-item.result;
  asking = c.loop-entry.invariant.count;
}

pub loop-entry-preserved : goal.loop-entry-preserved
loop-entry-preserved g c = record {
  turn =
      turned c.args.entries.now c.args.slots.now.items c.loop-entry.entries c.loop-entry.slots.items c.loop-entry.entry-index
      c.loop-entry-test.true c.loop-entry.invariant.turn c.entry-item.result
      c.exchange_one.new.entry c.exchange_one.new.slots.items c.exchange_one.ensures.entry c.exchange_one.ensures.slots;
  count = c.exchange_one.ensures.asking;
}
