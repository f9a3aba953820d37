use Rattle.std.proofs.Common.{take}
use Rattle.counter_index.specs.Exchanges.{HasRoomFor}
use Rattle.started_walk.proofs.room.room_kept.Given as goal

abbrev pub invariant-loop-key : goal.invariant-loop-key
invariant-loop-key g l = HasRoomFor l.room (take l.key-index l.entries)
