use Rattle.std.proofs.Common.{◌≡◌, ◌+◌, take}
use Rattle.snapshot_board.specs.Records.{put_all}
use Rattle.kept_elements.specs.Evaluations.{all_kept_of}
use Rattle.kept_elements.proofs.node_texts.put_entries.Given as goal

abbrev pub invariant-loop-key : goal.invariant-loop-key
invariant-loop-key g l = record {
  held : l.board.held ≡ put_all (all_kept_of l.table (g.T.Targets.known l.targets) (take l.key-index l.records)) l.fn.board.held;
  room : l.board.room ≡ l.fn.board.room;
  steps : l.steps ≡ l.fn.steps + l.key-index;
}
