use Rattle.std.proofs.Common.{refl, codes, List, ℕ, ◌++◌}
use Rattle.std.specs.Fmt.{decimal}
use Rattle.std.proofs.lemmas.Result.{on_err_weaker, on_ok_weaker}
use Rattle.ports.proofs.GrownLemmas.{front_last, front_step, grown_after, on_err}
use Rattle.marker_cli.specs.Lines.{about}
use Rattle.marker_cli.proofs.LineLemmas.{front_about, grown_about}
use Rattle.marker_cli.proofs.report.put_malformed.Goals as goal

abbrev rest : ℕ → ℕ → List ℕ
rest line column = (decimal line ++ codes ":") ++ (decimal column ++ codes ": not well-formed\n")

pub returns-in_err-put_about-clause-failed : goal.returns-in_err-put_about-clause-failed
returns-in_err-put_about-clause-failed g c =
    on_err _ (front_about c.args.words.now c.args.commands.now c.args.file (codes ":") (rest c.args.line c.args.column)
    (front_last {piece = about c.args.words.now c.args.commands.now c.args.file (codes ":")} _ c.in_err-put_about.ensures.failed refl))

pub returns-in_err-put_number-clause-failed : goal.returns-in_err-put_number-clause-failed
returns-in_err-put_number-clause-failed g c =
    on_err _ (front_about c.args.words.now c.args.commands.now c.args.file (codes ":") (rest c.args.line c.args.column)
    (front_step {piece = about c.args.words.now c.args.commands.now c.args.file (codes ":")} c.in_ok-put_about.ensures.ok refl
    (front_last {piece = decimal c.args.line ++ codes ":"} _ c.in_err-put_number.ensures.failed refl)))

pub returns-clause-ok : goal.returns-clause-ok
returns-clause-ok g c =
    on_ok_weaker c.put_number-2.result
    (λ h. grown_about _ _ _ c.args.words.now c.args.commands.now c.args.file (codes ":") (rest c.args.line c.args.column) c.in_ok-put_about.ensures.ok
    (grown_after _ _ _ (decimal c.args.line ++ codes ":") (decimal c.args.column ++ codes ": not well-formed\n") c.in_ok-put_number.ensures.ok h))
    c.put_number-2.ensures.ok

pub returns-clause-failed : goal.returns-clause-failed
returns-clause-failed g c =
    on_err_weaker c.put_number-2.result
    (λ h. front_about c.args.words.now c.args.commands.now c.args.file (codes ":") (rest c.args.line c.args.column)
    (front_step {piece = about c.args.words.now c.args.commands.now c.args.file (codes ":")} c.in_ok-put_about.ensures.ok refl
    (front_step {piece = decimal c.args.line ++ codes ":"} c.in_ok-put_number.ensures.ok refl h)))
    c.put_number-2.ensures.failed
