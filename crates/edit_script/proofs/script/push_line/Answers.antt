use Rattle.std.proofs.Common.{sym, ◌∙◌}
use Rattle.edit_script.specs.Machinery.Reading.{adds_command}
use Rattle.edit_script.proofs.script.push_line.Goals as goal

pub returns-in_ok-push-in-Ok-clause-ok : goal.returns-in_ok-push-in-Ok-clause-ok
returns-in_ok-push-in-Ok-clause-ok c = adds_command c.in-Ok.action (sym c.is_skipped.ensures ∙ c.if-is_skipped.false) c.in-Ok.ensures.found c.in_ok-push-in-Ok.ensures.ok
