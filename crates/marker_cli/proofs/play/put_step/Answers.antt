use Rattle.std.proofs.Common.{refl}
use Rattle.std.specs.Prelude.{Err}
use Rattle.undo_ring.specs.declared.undo_fault.UndoFault.TheVariants.{Nothing}
use Rattle.marker_cli.specs.declared.status.Status.TheVariants.{Memory}
use Rattle.marker_cli.proofs.PlayLemmas.{goes_stopped, step_untold, told_so}
use Rattle.marker_cli.proofs.StepLemmas.{left_led, left_still}
use Rattle.marker_cli.proofs.PlayedLemmas.{stepped_done, stepped_nothing, stepped_stopped}
use Rattle.marker_cli.proofs.play.put_step.Goals as goal

pub returns-in_err-put_numbered-in-Err-Nothing-clause-told : goal.returns-in_err-put_numbered-in-Err-Nothing-clause-told
returns-in_err-put_numbered-in-Err-Nothing-clause-told g c versions left step next alike answers =
    goes_stopped c.from_residual.result c.from_residual.ensures
    (step_untold _ versions left step next _ c.args.outcome answers (told_so c.args.outcome c.in-Err-Nothing.field-0 Nothing c.in-Err-Nothing.is (rw c.in-Err-Nothing.is at c.in-Err-Nothing.field-0-is)) refl
    c.in_err-put_numbered-in-Err-Nothing.ensures.cause.failed c.in_err-put_numbered-in-Err-Nothing.ensures.failed)

pub returns-in-Ok-clause-left : goal.returns-in-Ok-clause-left
returns-in-Ok-clause-left g c versions left step answers = left_led c.args.outcome versions left step answers c.in-Ok.is

pub returns-in_ok-put_numbered-in-Err-Nothing-clause-left : goal.returns-in_ok-put_numbered-in-Err-Nothing-clause-left
returns-in_ok-put_numbered-in-Err-Nothing-clause-left g c versions left step answers =
    left_still c.args.outcome versions left step answers (told_so c.args.outcome c.in-Err-Nothing.field-0 Nothing c.in-Err-Nothing.is (rw c.in-Err-Nothing.is at c.in-Err-Nothing.field-0-is))

pub returns-in-Ok-clause-takes : goal.returns-in-Ok-clause-takes
returns-in-Ok-clause-takes g c files depth commands versions left step before after old new answers took =
    stepped_done files depth commands c.args.outcome versions left step before after old new answers took tt c.in-Ok.is

pub returns-in_ok-put_numbered-in-Err-Nothing-clause-takes : goal.returns-in_ok-put_numbered-in-Err-Nothing-clause-takes
returns-in_ok-put_numbered-in-Err-Nothing-clause-takes g c files depth commands versions left step before after old new answers took =
    stepped_nothing files depth commands c.args.outcome versions left step before after old new answers took tt
    (told_so c.args.outcome c.in-Err-Nothing.field-0 Nothing c.in-Err-Nothing.is (rw c.in-Err-Nothing.is at c.in-Err-Nothing.field-0-is))

pub returns-in_err-put_numbered-in-Err-Nothing-clause-takes : goal.returns-in_err-put_numbered-in-Err-Nothing-clause-takes
returns-in_err-put_numbered-in-Err-Nothing-clause-takes g c files depth commands versions left step before after old new answers took =
    stepped_stopped files depth commands c.args.outcome versions left step before after old new answers took c.from_residual.result c.from_residual.ensures.0 c.in-Err-Nothing.is

pub returns-in-Err-Memory-clause-takes : goal.returns-in-Err-Memory-clause-takes
returns-in-Err-Memory-clause-takes g c files depth commands versions left step before after old new answers took =
    stepped_stopped files depth commands c.args.outcome versions left step before after old new answers took (Err Memory) refl c.in-Err-Memory.is
