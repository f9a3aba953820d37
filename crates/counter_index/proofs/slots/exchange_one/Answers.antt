use Rattle.std.proofs.Common.{ap, arith, set, ◌∙◌}
use Rattle.counter_index.specs.Machinery.Asking.{is_asking}
use Rattle.counter_index.proofs.AskingLemmas.{count-put, few-asking, some-asking}
use Rattle.counter_index.proofs.slots.exchange_one.Goals as goal

pub counted-requires : goal.counted-requires
counted-requires g c =
    let asks = g.T.Asks.asks in
    let came = c.is_asking-came.ensures.test ∙ ap (is_asking asks) c.as_ref.ensures.value in
    let went = c.is_asking-went.ensures.test ∙ ap (is_asking asks) c.as_ref-2.ensures.value in
    record {
      few =
          few-asking asks c.args.slots.now.items c.args.entry.now.0 c.args.entry.now.1 c.index_mut-slot.result.now _ c.is_asking-came.result c.is_asking-went.result (omega (arith, c.if-room-entry.false, c.len-room.ensures))
          came c.index_mut-slot.ensures.value went c.args.asking.now c.len-room.result c.requires.asking (omega arith);
      some =
          some-asking asks c.args.slots.now.items c.args.entry.now.0 c.args.entry.now.1 c.index_mut-slot.result.now _ c.is_asking-came.result c.is_asking-went.result (omega (arith, c.if-room-entry.false, c.len-room.ensures))
          came c.index_mut-slot.ensures.value went c.args.asking.now c.requires.asking;
    }

pub returns-clause-asking : goal.returns-clause-asking
returns-clause-asking g c =
    let asks = g.T.Asks.asks in
    let came = c.is_asking-came.ensures.test ∙ ap (is_asking asks) c.as_ref.ensures.value in
    let went = c.is_asking-went.ensures.test ∙ ap (is_asking asks) c.as_ref-2.ensures.value in
    count-put asks c.args.slots.now.items c.args.entry.now.0 c.args.entry.now.1 c.index_mut-slot.result.now _ c.is_asking-came.result c.is_asking-went.result (omega (arith, c.if-room-entry.false, c.len-room.ensures))
    came c.index_mut-slot.ensures.value went c.args.asking.now c.counted.result _ c.requires.asking (ap (set c.args.slots.now.items c.args.entry.now.0) c.swap.ensures.x_after) c.counted.ensures.count
