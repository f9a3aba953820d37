use Rattle.std.proofs.Common.{arith}
use Rattle.std.proofs.lemmas.Int.{ints}
use Rattle.marker_cli.proofs.form.is_span.Goals as goal

pub returns-then-from-to : goal.returns-then-from-to
returns-then-from-to c = (λ t. (grind (arith, ints), grind (arith, ints)), λ h. let low = h.0 in let high = h.1 in grind (arith, ints))
