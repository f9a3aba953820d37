use Rattle.std.proofs.Common.{◌≤◌}
use Rattle.snapshot_board.proofs.tests.comes_out.Given as goal

abbrev pub invariant-loop-access : goal.invariant-loop-access
invariant-loop-access g l = 4 ≤ l.board.room
