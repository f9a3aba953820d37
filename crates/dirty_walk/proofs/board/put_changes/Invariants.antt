use Rattle.std.proofs.Common.{◌≡◌, ◌+◌, length}
use Rattle.snapshot_board.specs.Records.{put_all}
use Rattle.kept_elements.specs.Changes.{AreBelow, puts_of}
use Rattle.dirty_walk.proofs.board.put_changes.Given as goal

abbrev pub invariant-loop-key : goal.invariant-loop-key
invariant-loop-key g l = record {
  held : put_all (puts_of l.key-iterator.rest.items) l.board.held ≡ put_all (puts_of l.fn.changes.items) l.fn.board.held;
  room : l.board.room ≡ l.fn.board.room;
  below : AreBelow l.board.room l.key-iterator.rest.items;
  steps : l.steps + length l.key-iterator.rest.items ≡ l.fn.steps + length l.fn.changes.items;
}
