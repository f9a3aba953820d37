use Rattle.std.proofs.Common.{◌≡◌, ◌+◌, take}
use Rattle.snapshot_board.specs.Records.{take_all}
use Rattle.dirty_walk.proofs.board.take_entries.Given as goal

abbrev pub invariant-loop-key : goal.invariant-loop-key
invariant-loop-key g l = record {
  held : l.board.held ≡ take_all (take l.key-index l.keys) l.fn.board.held;
  room : l.board.room ≡ l.fn.board.room;
  steps : l.steps ≡ l.fn.steps + l.key-index;
}
