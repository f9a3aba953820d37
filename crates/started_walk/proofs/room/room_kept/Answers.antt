use Rattle.std.proofs.Common.{arith, subst}
use Rattle.std.proofs.lemmas.List.{take_all}
use Rattle.counter_index.specs.Exchanges.{HasRoomFor}
use Rattle.started_walk.proofs.BringLemmas.{kept-turn}
use Rattle.started_walk.proofs.room.room_kept.Goals as goal

pub loop-key-preserved : goal.loop-key-preserved
loop-key-preserved g c =
    kept-turn c.args.entries.now c.loop-key.key-index c.loop-key.room c.max-room.result c.in_ok-own.own c.loop-key-item.result c.loop-key-test.true c.loop-key-item.is c.loop-key.invariant
    c.in_ok-own.ensures.room (omega (arith, c.max-room.ensures)) (omega (arith, c.max-room.ensures))

pub returns : goal.returns
returns g c = record { room = subst (HasRoomFor c.loop-key.room) (take_all c.loop-key.key-index c.args.entries.now c.loop-key-test.false) c.loop-key.invariant }
