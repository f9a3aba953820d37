use Rattle.std.proofs.Common.{◌≡◌}
use Rattle.started_walk.proofs.SavedLemmas.{Saving}
use Rattle.started_walk.proofs.saved.save.Given as goal

abbrev pub invariant-loop-change : goal.invariant-loop-change
invariant-loop-change l = record {
  turn : Saving l.fn.zeros.room l.fn.changes l.fn.zeros.held l.changes l.zeros.held l.change-index;
  room : l.zeros.room ≡ l.fn.zeros.room;
}
