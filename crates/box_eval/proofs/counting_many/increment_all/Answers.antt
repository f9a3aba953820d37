use Rattle.std.proofs.Common.{◌≡◌, ◌∙◌, List, ap, rules, to_z, of_z, w64}
use Rattle.plain_types.specs.declared.counter.Counter.{Counter}
use Rattle.plain_types.specs.declared.style.CounterOp.{CounterOp}
use Rattle.counter_sets.specs.Sets.{incremented, is_missing_in}
use Rattle.box_eval.proofs.ListLemmas.{fold_step}
use Rattle.box_eval.proofs.counting_many.increment_all.Goals as goal

pub loop-op-preserved : goal.loop-op-preserved
loop-op-preserved c =
    let op : CounterOp = c.op-item.result in
    let f : List Counter → CounterOp → List Counter = λ before (op : CounterOp). incremented (is_missing_in c.args.place.now.parent) c.args.place.now.creator before op.name op.value in
    let same : to_z w64 (of_z w64 op.value) ≡ op.value = search rules in
    fold_step f c.args.increments.now c.loop-op.op-index op c.loop-op.set c.in_ok-set.set _ c.loop-op-test.true c.op-item.is
    (c.in_ok-set.ensures.set ∙ ap (λ value. incremented (is_missing_in c.args.place.now.parent) c.args.place.now.creator c.loop-op.set op.name value) same) c.loop-op.invariant
