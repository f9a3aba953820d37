use Rattle.std.proofs.Common.{ℕ, List, codes, refl}
use Rattle.std.proofs.lemmas.Result.{on_err_weaker, on_ok_weaker}
use Rattle.ports.proofs.GrownLemmas.{front_last, front_step, grown_after, on_err}
use Rattle.marker_cli.specs.Generated.{number_line}
use Rattle.marker_cli.proofs.generated.put_numbers.Goals as goal

abbrev first : ℕ → List ℕ
first number = number_line (codes "elements ") number

abbrev second : ℕ → List ℕ
second number = number_line (codes "boxes ") number

abbrev third : ℕ → List ℕ
third number = number_line (codes "accepted ") number

abbrev fourth : ℕ → List ℕ
fourth number = number_line (codes "refused ") number

pub returns-in_err-put_numbered-clause-failed : goal.returns-in_err-put_numbered-clause-failed
returns-in_err-put_numbered-clause-failed g c = on_err _ (front_last {piece = first c.args.census.elements} _ c.in_err-put_numbered.ensures.failed refl)

pub returns-in_err-put_numbered-2-clause-failed : goal.returns-in_err-put_numbered-2-clause-failed
returns-in_err-put_numbered-2-clause-failed g c =
    on_err _ (front_step {piece = first c.args.census.elements} c.in_ok-put_numbered.ensures.ok refl
    (front_last {piece = second c.args.census.boxes} _ c.in_err-put_numbered-2.ensures.failed refl))

pub returns-in_err-put_numbered-3-clause-failed : goal.returns-in_err-put_numbered-3-clause-failed
returns-in_err-put_numbered-3-clause-failed g c =
    on_err _ (front_step {piece = first c.args.census.elements} c.in_ok-put_numbered.ensures.ok refl
    (front_step {piece = second c.args.census.boxes} c.in_ok-put_numbered-2.ensures.ok refl
    (front_last {piece = third c.args.tally.accepted} _ c.in_err-put_numbered-3.ensures.failed refl)))

pub returns-in_err-put_numbered-4-clause-failed : goal.returns-in_err-put_numbered-4-clause-failed
returns-in_err-put_numbered-4-clause-failed g c =
    on_err _ (front_step {piece = first c.args.census.elements} c.in_ok-put_numbered.ensures.ok refl
    (front_step {piece = second c.args.census.boxes} c.in_ok-put_numbered-2.ensures.ok refl
    (front_step {piece = third c.args.tally.accepted} c.in_ok-put_numbered-3.ensures.ok refl
    (front_last {piece = fourth c.args.tally.refused} _ c.in_err-put_numbered-4.ensures.failed refl))))

pub returns-clause-ok : goal.returns-clause-ok
returns-clause-ok g c =
    on_ok_weaker c.put_numbered-5.result
    (λ h. grown_after _ _ _ (first c.args.census.elements) _ c.in_ok-put_numbered.ensures.ok
    (grown_after _ _ _ (second c.args.census.boxes) _ c.in_ok-put_numbered-2.ensures.ok
    (grown_after _ _ _ (third c.args.tally.accepted) _ c.in_ok-put_numbered-3.ensures.ok
    (grown_after _ _ _ (fourth c.args.tally.refused) _ c.in_ok-put_numbered-4.ensures.ok h))))
    c.put_numbered-5.ensures.ok

pub returns-clause-failed : goal.returns-clause-failed
returns-clause-failed g c =
    on_err_weaker c.put_numbered-5.result
    (λ h. front_step {piece = first c.args.census.elements} c.in_ok-put_numbered.ensures.ok refl
    (front_step {piece = second c.args.census.boxes} c.in_ok-put_numbered-2.ensures.ok refl
    (front_step {piece = third c.args.tally.accepted} c.in_ok-put_numbered-3.ensures.ok refl
    (front_step {piece = fourth c.args.tally.refused} c.in_ok-put_numbered-4.ensures.ok refl h))))
    c.put_numbered-5.ensures.failed
