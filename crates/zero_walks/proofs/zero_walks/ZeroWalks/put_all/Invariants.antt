use Rattle.std.proofs.Common.{◌≡◌, ◌<◌, ℕ}
use Rattle.std.specs.List.{AllByRecursion}
use Rattle.surroundings.specs.declared.walked.Walked.{Walked}
use Rattle.snapshot_board.specs.Records.{put_all}
use Rattle.zero_walks.proofs.zero_walks.ZeroWalks.put_all.Given as goal

abbrev pub invariant-loop-key : goal.invariant-loop-key
invariant-loop-key l = record {
  held : put_all l.key-iterator.rest.items l.self.held ≡ put_all l.fn.walked.items l.fn.self.held;
  room : l.self.room ≡ l.fn.self.room;
  below : AllByRecursion (λ (element : ℕ × Walked). element.0 < l.self.room) l.key-iterator.rest.items;
}
