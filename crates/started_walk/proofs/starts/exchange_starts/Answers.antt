use Rattle.started_walk.proofs.BringLemmas.{below-room}
use Rattle.started_walk.proofs.starts.exchange_starts.Goals as goal

pub exchange_starts-requires : goal.exchange_starts-requires
exchange_starts-requires c = record {
  room = below-room c.in_ok-room.room c.reserve.new.self.starts.room c.args.starts.now c.in_ok-room.ensures.room c.in_ok-reserve.ensures.starts_room;
}

pub restore_starts-requires : goal.restore_starts-requires
restore_starts-requires c = record { room = c.exchange_starts.ensures.back_room }

pub returns-in-Ok-clause-room : goal.returns-in-Ok-clause-room
returns-in-Ok-clause-room c = c.exchange_starts.ensures.back_room
