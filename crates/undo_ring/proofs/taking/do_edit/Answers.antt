use Rattle.undo_ring.proofs.EngineFacts.{done_is, steps_are}
use Rattle.undo_ring.proofs.taking.do_edit.Goals as goal

pub returns-in-Ok-clause-done : goal.returns-in-Ok-clause-done
returns-in-Ok-clause-done g c = done_is c.args.edit.now c.args.engine.now c.apply.new.self c.requires c.in-Ok.ensures.ok

pub returns-in-Ok-clause-steps : goal.returns-in-Ok-clause-steps
returns-in-Ok-clause-steps g c = steps_are c.args.edit.now c.args.engine.now c.apply.new.steps c.args.steps.now c.requires c.apply.ensures.steps

pub returns-in-Err-clause-steps : goal.returns-in-Err-clause-steps
returns-in-Err-clause-steps g c = steps_are c.args.edit.now c.args.engine.now c.apply.new.steps c.args.steps.now c.requires c.apply.ensures.steps
