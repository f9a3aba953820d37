use Rattle.std.proofs.Common.{ℕ, List, ◌++◌, codes, refl}
use Rattle.std.specs.Fmt.{decimal}
use Rattle.ports.proofs.GrownLemmas.{front_last, front_step, on_err}
use Rattle.marker_cli.proofs.play_book.put_chapter.Goals as goal

abbrev first : ℕ → List ℕ
first number = codes "show " ++ (decimal number ++ codes "\n")

pub returns-in_err-put_numbered-clause-failed : goal.returns-in_err-put_numbered-clause-failed
returns-in_err-put_numbered-clause-failed g c = on_err _ (front_last {piece = first c.args.number} _ c.in_err-put_numbered.ensures.failed refl)

pub returns-in_err-show-clause-failed : goal.returns-in_err-show-clause-failed
returns-in_err-show-clause-failed g c =
    on_err _ (front_step {piece = first c.args.number} c.in_ok-put_numbered.ensures.ok refl (front_last _ c.in_err-show.ensures.failed refl))

pub returns-in_err-put_all-clause-failed : goal.returns-in_err-put_all-clause-failed
returns-in_err-put_all-clause-failed g c =
    on_err _ (front_step {piece = first c.args.number} c.in_ok-put_numbered.ensures.ok refl
    (front_step c.in_ok-show.ensures.ok refl c.in_err-put_all.ensures.failed))
