use Rattle.std.proofs.Common.{◌∙◌}
use Rattle.started_walk.proofs.SavedLemmas.{saved-turn}
use Rattle.started_walk.proofs.saved.save.Goals as goal

pub loop-change-preserved : goal.loop-change-preserved
loop-change-preserved c = record {
  turn =
      saved-turn c.args.zeros.now.room c.args.changes.now c.args.zeros.now.held c.loop-change.changes c.loop-change.zeros.held c.loop-change.change-index
      c.loop-change-test.true c.loop-change.invariant.turn _ c.loop-change.zeros.room c.loop-change.invariant.room
      c.save_one.new.change c.save_one.new.zeros.held c.save_one.ensures.change c.save_one.ensures.held;
  room = c.save_one.ensures.room ∙ c.loop-change.invariant.room;
}
