use Rattle.std.proofs.Common.{sym, ◌∙◌}
use Rattle.std.specs.Str.{chars}
use Rattle.edit_script.specs.Machinery.Words.{ArePositions}
use Rattle.edit_script.specs.Scripts.{IsPathText}
use Rattle.edit_script.proofs.FaultLaws.{stopped}
use Rattle.edit_script.proofs.PathLaws.{path-positions, path-root, slash-is, slash-no}
use Rattle.edit_script.proofs.path.read_path.Goals as goal

pub returns-then-eq-clause-found : goal.returns-then-eq-clause-found
returns-then-eq-clause-found c = rw c.in_ok-of.ensures.steps (path-root (chars c.args.text.now) (slash-is c.args.text.now (sym c.eq.ensures ∙ c.if-eq.true)))

pub returns-in_err-positions-clause-fault : goal.returns-in_err-positions-clause-fault
returns-in_err-positions-clause-fault c =
    stopped (ArePositions (chars c.args.text.now)) (IsPathText (chars c.args.text.now)) c.from_residual-in_err-positions.result c.in_err-positions.field-0.0
    c.from_residual-in_err-positions.ensures c.in_err-positions.ensures.fault
    (λ path is. (path, (path-positions (chars c.args.text.now) path (slash-no c.args.text.now c.utf8.text (sym c.eq.ensures ∙ c.if-eq.false)) is).0))
