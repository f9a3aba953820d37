use Rattle.std.proofs.Common.{◌+◌, ◌∙◌, [], arith, drop, refl}
use Rattle.ports.proofs.CauseLemmas.{raises_none, rose_after}
use Rattle.marker_cli.specs.Book.{play_book}
use Rattle.marker_cli.specs.BookSteps.{book_script_steps}
use Rattle.marker_cli.proofs.EndsLemmas.{at_part, at_same, at_start, ends_part, ends_stopped, reads_after}
use Rattle.marker_cli.proofs.PlayBookLemmas.{play_next, steps_next}
use Rattle.marker_cli.proofs.ReadLemmas.{read_all, read_more}
use Rattle.marker_cli.specs.OpenVolumes.{book_of}
use Rattle.marker_cli.proofs.PlayedBookLemmas.{calls_next, no_calls}
use Rattle.marker_cli.proofs.play_book.play_book.Goals as goal

pub loop-command-preserved : goal.loop-command-preserved
loop-command-preserved g c =
    let now = c.loop-command.invariant in
    record {
      told = λ files told.
          at_part
          (at_same (play_next files _ _ c.command-item.result _ c.loop-command-test.true c.command-item.is) (now.told files told))
          (c.in_ok-play_book_command.ensures.told files (play_book files (drop (c.loop-command.command-index + 1) c.args.commands.now)) (now.held ∙ told)).on;
      held = c.in_ok-play_book_command.ensures.held ∙ now.held;
      honest = c.in_ok-play_book_command.ensures.honest ∙ now.honest;
      faults = omega (arith, now.faults, c.in_ok-play_book_command.ensures.faults);
      taken = omega (arith, now.taken, c.in_ok-play_book_command.ensures.taken);
      put_faults = omega (arith, now.put_faults, c.in_ok-play_book_command.ensures.put_faults);
      reads = λ files told. read_more files _ _ c.command-item.result _ _ _ c.loop-command-test.true c.command-item.is (now.reads files told)
          (c.in_ok-play_book_command.ensures.reads files (now.held ∙ told));
      steps = λ files told.
          let next = steps_next files _ _ c.command-item.result (book_of c.loop-command.book) c.loop-command-test.true c.command-item.is in
          let so_far = now.steps files told in
          let spent = (c.in_ok-play_book_command.ensures.steps files (book_script_steps files (drop (c.loop-command.command-index + 1) c.args.commands.now)) (now.held ∙ told)).on in
          omega (arith, next, so_far, spent);
      takes = λ files told rest follows.
          let commands = drop (c.loop-command.command-index + 1) c.args.commands.now in
          let here = (c.in_ok-play_book_command.ensures.takes files commands (now.held ∙ told)).on rest follows in
          let behind = now.takes files told here.0 (calls_next files _ _ c.command-item.result _ here.0 c.loop-command-test.true c.command-item.is here.1) in
          (behind.0, behind.1, omega (arith, here.2, behind.2));
    }

pub returns-in_err-play_book_command-clause-told : goal.returns-in_err-play_book_command-clause-told
returns-in_err-play_book_command-clause-told g c files told =
    let now = c.loop-command.invariant in
    ends_stopped c.from_residual.result c.from_residual.ensures
    (ends_part _ _
    (at_same (play_next files _ _ c.command-item.result _ c.loop-command-test.true c.command-item.is) (now.told files told))
    (c.in_err-play_book_command.ensures.told files (play_book files (drop (c.loop-command.command-index + 1) c.args.commands.now)) (now.held ∙ told)).stops
    (λ failed. reads_after now.honest now.faults failed) (λ rose. rose_after _ _ _ now.put_faults rose))

pub loop-command-init : goal.loop-command-init
loop-command-init g c = record {
  told = λ files told. at_start _ _;
  held = refl;
  honest = refl;
  faults = omega arith;
  taken = omega arith;
  put_faults = omega arith;
  reads = λ files told. record { so_far = 0; raised = raises_none _ _ refl; parts = omega arith };
  steps = λ files told. omega arith;
  takes = λ files told rest takes. (rest, takes, omega arith);
}

pub returns-clause-reads : goal.returns-clause-reads
returns-clause-reads g c files told =
    read_all files _ _ _ _ (let end = c.loop-command-test.false in omega arith) (c.loop-command.invariant.reads files told)

pub returns-in_err-play_book_command-clause-steps : goal.returns-in_err-play_book_command-clause-steps
returns-in_err-play_book_command-clause-steps g c files told =
    let now = c.loop-command.invariant in
    let next = steps_next files _ _ c.command-item.result (book_of c.loop-command.book) c.loop-command-test.true c.command-item.is in
    let so_far = now.steps files told in
    let spent = (c.in_err-play_book_command.ensures.steps files (book_script_steps files (drop (c.loop-command.command-index + 1) c.args.commands.now)) (now.held ∙ told)).within in
    omega (arith, next, so_far, spent)

pub returns-clause-steps : goal.returns-clause-steps
returns-clause-steps g c files told = let so_far = c.loop-command.invariant.steps files told in omega (arith, so_far)

pub returns-in_err-play_book_command-clause-takes : goal.returns-in_err-play_book_command-clause-takes
returns-in_err-play_book_command-clause-takes g c files told =
    let now = c.loop-command.invariant in
    let commands = drop (c.loop-command.command-index + 1) c.args.commands.now in
    let here = (c.in_err-play_book_command.ensures.takes files commands (now.held ∙ told)).ends in
    let behind = now.takes files told here.0 (calls_next files _ _ c.command-item.result _ here.0 c.loop-command-test.true c.command-item.is here.1) in
    (behind.0, behind.1, omega (arith, here.2, behind.2))

pub returns-clause-takes : goal.returns-clause-takes
returns-clause-takes g c files told =
    let all = c.loop-command.invariant.takes files told [] (no_calls files (drop c.loop-command.command-index c.args.commands.now) c.loop-command.book) in
    (all.0, all.1, omega (arith, all.2))
