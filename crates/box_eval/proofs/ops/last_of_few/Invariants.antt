use Rattle.std.proofs.Common.{◌≡◌, ◌++◌, length}
use Rattle.box_eval.specs.Properties.{last_assigns}
use Rattle.box_eval.proofs.ops.last_of_few.Given as goal

abbrev pub invariant-loop-op : goal.invariant-loop-op
invariant-loop-op l = l.last ++ last_assigns l.rest ≡ last_assigns l.assigns

abbrev pub decreases-loop-op : goal.decreases-loop-op
decreases-loop-op l = length l.rest
