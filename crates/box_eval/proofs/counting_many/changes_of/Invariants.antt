use Rattle.std.proofs.Common.{◌≡◌, ◌++◌, take, map}
use Rattle.std.specs.Prelude.{filter, not}
use Rattle.std.specs.List.{list_any}
use Rattle.plain_types.specs.declared.style.CounterOp.{CounterOp}
use Rattle.box_eval.specs.Properties.{change_of, is_for, names}
use Rattle.box_eval.proofs.counting_many.changes_of.Given as goal

abbrev pub invariant-loop-op : goal.invariant-loop-op
invariant-loop-op l = l.changes ≡ map (change_of l.creator l.increments l.assigns l.set) (names (take l.op-index l.increments))

abbrev pub invariant-loop-op-2 : goal.invariant-loop-op-2
invariant-loop-op-2 l = l.changes ≡ map (change_of l.creator l.increments l.assigns l.set) (names (l.increments ++ filter (λ (op : CounterOp). not (list_any (is_for op.name) l.increments)) (take l.op-index l.assigns)))
