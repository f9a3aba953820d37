use Rattle.std.proofs.Common.{◌≡◌, ◌++◌, drop}
use Rattle.box_eval.specs.Properties.{last_assigns}
use Rattle.box_eval.proofs.ops.last_of_many.Given as goal

abbrev pub invariant-loop-place : goal.invariant-loop-place
invariant-loop-place l = l.last ++ last_assigns (drop l.place l.assigns) ≡ last_assigns l.assigns
