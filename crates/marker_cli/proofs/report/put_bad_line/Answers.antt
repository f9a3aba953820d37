use Rattle.std.proofs.Common.{refl, codes, ◌++◌}
use Rattle.std.specs.Fmt.{decimal}
use Rattle.std.proofs.lemmas.Result.{on_err_weaker, on_ok_weaker}
use Rattle.ports.proofs.GrownLemmas.{front_last, front_step, on_err}
use Rattle.marker_cli.specs.Lines.{about, script_word}
use Rattle.marker_cli.proofs.LineLemmas.{front_about, grown_about}
use Rattle.marker_cli.proofs.report.put_bad_line.Goals as goal

pub returns-in_err-put_about-clause-failed : goal.returns-in_err-put_about-clause-failed
returns-in_err-put_about-clause-failed g c =
    on_err _ (front_about c.args.words.now c.args.commands.now (script_word c.args.words.now) (codes ":") (decimal c.args.number ++ codes ": bad line\n")
    (front_last {piece = about c.args.words.now c.args.commands.now (script_word c.args.words.now) (codes ":")} _ (rw c.script_word.ensures at c.in_err-put_about.ensures.failed) refl))

pub returns-clause-ok : goal.returns-clause-ok
returns-clause-ok g c =
    on_ok_weaker c.put_number.result (λ h. grown_about _ _ _ c.args.words.now c.args.commands.now (script_word c.args.words.now) (codes ":") (decimal c.args.number ++ codes ": bad line\n") (rw c.script_word.ensures at c.in_ok-put_about.ensures.ok) h)
    c.put_number.ensures.ok

pub returns-clause-failed : goal.returns-clause-failed
returns-clause-failed g c =
    on_err_weaker c.put_number.result
    (λ h. front_about c.args.words.now c.args.commands.now (script_word c.args.words.now) (codes ":") (decimal c.args.number ++ codes ": bad line\n")
    (front_step {piece = about c.args.words.now c.args.commands.now (script_word c.args.words.now) (codes ":")} (rw c.script_word.ensures at c.in_ok-put_about.ensures.ok) refl h))
    c.put_number.ensures.failed
