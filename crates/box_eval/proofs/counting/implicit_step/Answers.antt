use Rattle.std.specs.Str.{chars}
use Rattle.counter_sets.specs.Sets.{innermost}
use Rattle.box_eval.specs.Properties.{list_item}
use Rattle.box_eval.proofs.OpLemmas.{implicit_found, implicit_missing}
use Rattle.std.proofs.Common.{true, false}
use Rattle.box_eval.proofs.counting.implicit_step.Goals as goal

pub returns-then-counter : goal.returns-then-counter
unfolding chars
returns-then-counter c = record { step = implicit_found (innermost c.args.set.now list_item) c.in-Some.counter.now true c.in-Some.ensures.innermost c.if-counter.true }

pub returns-else-counter : goal.returns-else-counter
unfolding chars
returns-else-counter c = record { step = implicit_found (innermost c.args.set.now list_item) c.in-Some.counter.now false c.in-Some.ensures.innermost c.if-counter.false }

pub returns-in-None : goal.returns-in-None
unfolding chars
returns-in-None c = record { step = implicit_missing (innermost c.args.set.now list_item) c.in-None.ensures.innermost }
