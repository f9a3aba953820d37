use Rattle.std.proofs.Common.{◌≡◌, take, map}
use Rattle.css_definitions.specs.CounterStyles.{distinct}
use Rattle.box_eval.specs.Properties.{names, sum_for}
use Rattle.box_eval.proofs.ops.merged_few.Given as goal

abbrev pub invariant-loop-place : goal.invariant-loop-place
invariant-loop-place l = l.all ≡ map (λ name. record { name = name; value = sum_for name l.increments }) (distinct (names (take l.place l.increments)))
