use Rattle.std.proofs.Common.{take}
use Rattle.kept_elements.specs.Changes.{AreBelow}
use Rattle.started_walk.proofs.room.room_for.Given as goal

abbrev pub invariant-loop-key : goal.invariant-loop-key
invariant-loop-key g l = AreBelow l.room (take l.key-index l.entries)
