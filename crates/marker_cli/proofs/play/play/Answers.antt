use Rattle.std.proofs.Common.{◌+◌, ◌∙◌, [], ap, arith, drop, refl, sym}
use Rattle.ports.proofs.CauseLemmas.{raises_none, rose_after}
use Rattle.marker_cli.specs.Edit.{action_output, play}
use Rattle.marker_cli.specs.EditSteps.{action_steps, script_steps}
use Rattle.marker_cli.specs.Editors.{depth_of, document_of, versions_of}
use Rattle.marker_cli.proofs.EndsLemmas.{at_part, at_same, at_start, ends_part, ends_stopped, reads_after}
use Rattle.marker_cli.proofs.PlayLemmas.{play_next}
use Rattle.marker_cli.proofs.ReadLemmas.{read_all, read_more}
use Rattle.marker_cli.proofs.SameLemmas.{play_same}
use Rattle.marker_cli.proofs.StepLemmas.{script_same, steps_next}
use Rattle.marker_cli.proofs.PlayedLemmas.{at_depth}
use Rattle.marker_cli.proofs.TakenLemmas.{none_taken, taken_next}
use Rattle.marker_cli.proofs.play.play.Goals as goal

pub loop-command-preserved : goal.loop-command-preserved
loop-command-preserved g c =
    let now = c.loop-command.invariant in
    let depth = depth_of c.args.editor.now in
    record {
      told = λ files told.
          let rest = play files depth (drop (c.loop-command.command-index + 1) c.args.commands.now) in
          at_part
          (at_same
          (play_next files depth _ _ c.command-item.result _ c.loop-command-test.true c.command-item.is
          ∙ ap (λ d. action_output files d c.command-item.result.line c.command-item.result.action (versions_of c.loop-command.editor) rest) (sym now.depth))
          (now.told files told))
          (c.in_ok-play_command.ensures.told files rest (play_same files depth (drop (c.loop-command.command-index + 1) c.args.commands.now)) (now.held ∙ told)).on;
      depth = c.in_ok-play_command.ensures.depth ∙ now.depth;
      held = c.in_ok-play_command.ensures.held ∙ now.held;
      honest = c.in_ok-play_command.ensures.honest ∙ now.honest;
      faults = omega (arith, now.faults, c.in_ok-play_command.ensures.faults);
      taken = omega (arith, now.taken, c.in_ok-play_command.ensures.taken);
      put_faults = omega (arith, now.put_faults, c.in_ok-play_command.ensures.put_faults);
      reads = λ files told. read_more files _ _ c.command-item.result _ _ _ c.loop-command-test.true c.command-item.is (now.reads files told)
          (c.in_ok-play_command.ensures.reads files (now.held ∙ told));
      steps = λ files told.
          let rest = script_steps files depth (drop (c.loop-command.command-index + 1) c.args.commands.now) in
          let next = steps_next files depth _ _ c.command-item.result (versions_of c.loop-command.editor) c.loop-command-test.true c.command-item.is
          ∙ ap (λ d. action_steps files d c.command-item.result.line c.command-item.result.action (versions_of c.loop-command.editor) rest) (sym now.depth) in
          let so_far = now.steps files told in
          let spent = (c.in_ok-play_command.ensures.steps files rest (script_same files depth (drop (c.loop-command.command-index + 1) c.args.commands.now)) (now.held ∙ told)).on in
          omega (arith, next, so_far, spent);
      takes = λ files told rest follows.
          let commands = drop (c.loop-command.command-index + 1) c.args.commands.now in
          let here = (at_depth files _ depth commands c.command-item.result.line c.command-item.result.action (versions_of c.loop-command.editor) _ (document_of c.loop-command.editor) _ _ _ now.depth (c.in_ok-play_command.ensures.takes files commands (now.held ∙ told))).on rest follows in
          let behind = now.takes files told here.0 (taken_next files depth _ _ c.command-item.result _ _ here.0 c.loop-command-test.true c.command-item.is here.1) in
          (behind.0, behind.1, omega (arith, here.2, behind.2));
    }

pub returns-in_err-play_command-clause-told : goal.returns-in_err-play_command-clause-told
returns-in_err-play_command-clause-told g c files told =
    let now = c.loop-command.invariant in
    let depth = depth_of c.args.editor.now in
    let rest = play files depth (drop (c.loop-command.command-index + 1) c.args.commands.now) in
    ends_stopped c.from_residual.result c.from_residual.ensures
    (ends_part _ _
    (at_same
    (play_next files depth _ _ c.command-item.result _ c.loop-command-test.true c.command-item.is
    ∙ ap (λ d. action_output files d c.command-item.result.line c.command-item.result.action (versions_of c.loop-command.editor) rest) (sym now.depth))
    (now.told files told))
    (c.in_err-play_command.ensures.told files rest (play_same files depth (drop (c.loop-command.command-index + 1) c.args.commands.now)) (now.held ∙ told)).stops
    (λ failed. reads_after now.honest now.faults failed) (λ rose. rose_after _ _ _ now.put_faults rose))

pub loop-command-init : goal.loop-command-init
loop-command-init g c = record {
  told = λ files told. at_start _ _;
  depth = refl;
  held = refl;
  honest = refl;
  faults = omega arith;
  taken = omega arith;
  put_faults = omega arith;
  reads = λ files told. record { so_far = 0; raised = raises_none _ _ refl; parts = omega arith };
  steps = λ files told. omega arith;
  takes = λ files told rest takes. (rest, takes, omega arith);
}

pub returns-clause-reads : goal.returns-clause-reads
returns-clause-reads g c files told =
    read_all files _ _ _ _ (let end = c.loop-command-test.false in omega arith) (c.loop-command.invariant.reads files told)

pub returns-in_err-play_command-clause-steps : goal.returns-in_err-play_command-clause-steps
returns-in_err-play_command-clause-steps g c files told =
    let now = c.loop-command.invariant in
    let depth = depth_of c.args.editor.now in
    let rest = script_steps files depth (drop (c.loop-command.command-index + 1) c.args.commands.now) in
    let next = steps_next files depth _ _ c.command-item.result (versions_of c.loop-command.editor) c.loop-command-test.true c.command-item.is
    ∙ ap (λ d. action_steps files d c.command-item.result.line c.command-item.result.action (versions_of c.loop-command.editor) rest) (sym now.depth) in
    let so_far = now.steps files told in
    let spent = (c.in_err-play_command.ensures.steps files rest (script_same files depth (drop (c.loop-command.command-index + 1) c.args.commands.now)) (now.held ∙ told)).within in
    omega (arith, next, so_far, spent)

pub returns-clause-steps : goal.returns-clause-steps
returns-clause-steps g c files told = let so_far = c.loop-command.invariant.steps files told in omega (arith, so_far)

pub returns-in_err-play_command-clause-takes : goal.returns-in_err-play_command-clause-takes
returns-in_err-play_command-clause-takes g c files told =
    let now = c.loop-command.invariant in
    let depth = depth_of c.args.editor.now in
    let commands = drop (c.loop-command.command-index + 1) c.args.commands.now in
    let here = (at_depth files _ depth commands c.command-item.result.line c.command-item.result.action (versions_of c.loop-command.editor) _ (document_of c.loop-command.editor) _ _ _ now.depth (c.in_err-play_command.ensures.takes files commands (now.held ∙ told))).ends in
    let behind = now.takes files told here.0 (taken_next files depth _ _ c.command-item.result _ _ here.0 c.loop-command-test.true c.command-item.is here.1) in
    (behind.0, behind.1, omega (arith, here.2, behind.2))

pub returns-clause-takes : goal.returns-clause-takes
returns-clause-takes g c files told =
    let commands = c.args.commands.now in
    let now = c.loop-command.invariant in
    let last = none_taken files (depth_of c.args.editor.now) (drop c.loop-command.command-index commands) (versions_of c.loop-command.editor) (document_of c.loop-command.editor) in
    let all = now.takes files told [] last in
    (all.0, all.1, omega (arith, all.2))
