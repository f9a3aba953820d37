use Rattle.std.proofs.Common.{◌≡◌, take}
use Rattle.snapshot_board.specs.Records as records
use Rattle.zero_walks.proofs.zero_walks.ZeroWalks.take_all.Given as goal

abbrev pub invariant-loop-key : goal.invariant-loop-key
invariant-loop-key l = record {
  held : l.self.held ≡ records.take_all (take l.key-index l.keys) l.fn.self.held;
  room : l.self.room ≡ l.fn.self.room;
}
