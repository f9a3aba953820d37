use Rattle.std.proofs.Common.{◌∙◌, [], ap, subst, sym}
use Rattle.ports.specs.Causes.{Rose}
use Rattle.ports.proofs.CauseLemmas.{rose_after, rose_before}
use Rattle.marker_cli.specs.Lines.{GoesOut, message}
use Rattle.marker_cli.specs.Run.{commands_in, name_in}
use Rattle.marker_cli.proofs.EndsLemmas.{completes}
use Rattle.marker_cli.proofs.FlushLemmas.{ends_flushed, stays, tells_before, was_before, was_whole, write_rose}
use Rattle.marker_cli.proofs.RunLemmas.{cause_as, message_same}
use Rattle.marker_cli.proofs.TurnLemmas.{ends_missing, ends_not_held, ends_turn, turns_run}
use Rattle.marker_cli.proofs.run.run.Goals as goal

pub returns-clause-told : goal.returns-clause-told
returns-clause-told g c files readings told reads =
    ends_flushed (c.perform_words-status.ensures.told files readings told reads) c.flushed-status.ensures.outcome c.flushed-status.ensures.out
    (rose_before _ _ _ c.flushed-status.ensures.faults) (rose_after _ _ _ c.perform_words-status.ensures.faults)

pub returns-clause-complete : goal.returns-clause-complete
returns-clause-complete g c files readings told reads quiet written =
    completes (ends_flushed (c.perform_words-status.ensures.told files readings told reads) c.flushed-status.ensures.outcome c.flushed-status.ensures.out
    (rose_before _ _ _ c.flushed-status.ensures.faults) (rose_after _ _ _ c.perform_words-status.ensures.faults)) (λ failed. quiet failed.rose) written

pub returns-clause-turn : goal.returns-clause-turn
returns-clause-turn g c files readings told reads file is =
    ends_turn files (name_in c.args.words.now readings) file (turns_run c.args.words.now files readings reads)
    (c.perform_words-status.ensures.told files readings told reads) (was_before _ _ _ _ c.flushed-status.ensures.outcome is (λ e. cc e))

pub returns-clause-not_held : goal.returns-clause-not_held
returns-clause-not_held g c files readings told reads file honestly is =
    ends_not_held files (name_in c.args.words.now readings) file (turns_run c.args.words.now files readings reads)
    (c.perform_words-status.ensures.told files readings told reads) honestly (was_before _ _ _ _ c.flushed-status.ensures.outcome is (λ e. cc e))

pub returns-clause-missing : goal.returns-clause-missing
returns-clause-missing g c files readings told reads file honestly comes gone =
    ends_missing files (name_in c.args.words.now readings) file (turns_run c.args.words.now files readings reads)
    (ends_flushed (c.perform_words-status.ensures.told files readings told reads) c.flushed-status.ensures.outcome c.flushed-status.ensures.out
    (rose_before _ _ _ c.flushed-status.ensures.faults) (rose_after _ _ _ c.perform_words-status.ensures.faults)) honestly comes gone

pub returns-clause-usage : goal.returns-clause-usage
returns-clause-usage g c is = cause_as _ _ _ _ _ _ c.perform_words-status.ensures.cause (was_before _ _ _ _ c.flushed-status.ensures.outcome is (λ e. cc e))

pub returns-clause-no_form : goal.returns-clause-no_form
returns-clause-no_form g c none = stays _ _ _ _ c.flushed-status.ensures.outcome (c.perform_words-status.ensures.no_form none) (λ settled. settled)

pub returns-clause-no_output : goal.returns-clause-no_output
returns-clause-no_output g c is =
    c.flushed-status.ensures.out ∙ c.perform_words-status.ensures.no_output (was_before _ _ _ _ c.flushed-status.ensures.outcome is (λ e. cc e))

pub returns-clause-read_fault : goal.returns-clause-read_fault
returns-clause-read_fault g c file is = cause_as _ _ _ _ _ _ c.perform_words-status.ensures.cause (was_before _ _ _ _ c.flushed-status.ensures.outcome is (λ e. cc e))

pub returns-clause-too_large : goal.returns-clause-too_large
returns-clause-too_large g c file is = cause_as _ _ _ _ _ _ c.perform_words-status.ensures.cause (was_before _ _ _ _ c.flushed-status.ensures.outcome is (λ e. cc e))

pub returns-clause-write_fault : goal.returns-clause-write_fault
returns-clause-write_fault g c is =
    write_rose _ _ _ _ _ _ _ _ c.perform_words-status.ensures.faults c.flushed-status.ensures.faults c.perform_words-status.ensures.cause c.flushed-status.ensures.outcome is

pub returns-clause-line : goal.returns-clause-line
returns-clause-line g c not_line =
    subst (λ bytes. GoesOut (Rose (g.E.Sink.faults c.args.err.now) (g.E.Sink.faults c.report.new.err)) (g.E.Sink.out c.args.err.now) (g.E.Sink.out c.report.new.err) bytes)
    (message_same c.args.words.now c.as_slice.result.now [] c.flushed-status.result not_line) c.report.ensures.line

pub returns-clause-sheet_line : goal.returns-clause-sheet_line
returns-clause-sheet_line g c files readings told reads tells =
    let same = ap commands_in (c.perform_words-status.ensures.commands files readings told reads (tells_before _ _ _ c.flushed-status.ensures.outcome tells)) in
    subst (λ commands. GoesOut (Rose (g.E.Sink.faults c.args.err.now) (g.E.Sink.faults c.report.new.err)) (g.E.Sink.out c.args.err.now) (g.E.Sink.out c.report.new.err) (message c.args.words.now commands c.flushed-status.result))
    (c.as_slice.ensures.items ∙ sym same) c.report.ensures.line

pub returns-clause-any_line : goal.returns-clause-any_line
returns-clause-any_line g c = (c.as_slice.result.now, c.report.ensures.line)

pub returns-clause-reads : goal.returns-clause-reads
returns-clause-reads g c files readings told reads is =
    c.perform_words-status.ensures.reads files readings told reads (was_whole _ _ _ c.flushed-status.ensures.outcome is)
