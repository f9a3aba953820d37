use Rattle.std.proofs.Common.{◌∙◌, sym}
use Rattle.std.proofs.lemmas.List.{take_all}
use Rattle.counter_sets.proofs.InheritLemmas.{behind_all, behind_one, past_all, past_one}
use Rattle.counter_sets.proofs.inheriting.past_front.Goals as goal

pub loop-counter-preserved : goal.loop-counter-preserved
loop-counter-preserved c =
    let parent = c.args.parent.now in
    let sibling = c.args.sibling.now in
    let past = c.loop-counter.past.now in
    let rest = c.in_ok-first.rest.now in
    let first = c.in_ok-first.first.now in
    let place = c.loop-counter.counter-index in (
      past_one parent sibling past rest place c.counter-item.result first c.loop-counter-test.true c.counter-item.is c.in_ok-first.ensures.cases.0 (sym c.is_same.ensures.test ∙ c.if-not-is_same.false) c.loop-counter.invariant.0,
      behind_one parent sibling past rest place c.counter-item.result first c.loop-counter-test.true c.counter-item.is c.in_ok-first.ensures.cases.0 (sym c.is_same.ensures.test ∙ c.if-not-is_same.false) c.loop-counter.invariant.1,
    )

pub returns : goal.returns
returns c =
    let parent = c.args.parent.now in
    let sibling = c.args.sibling.now in
    let past = c.loop-counter.past.now in
    let place = c.loop-counter.counter-index in
    let all = take_all place parent c.loop-counter-test.false in
    record {
      past = past_all parent sibling past place all c.loop-counter.invariant.0;
      front = behind_all parent sibling past place c.loop-counter-test.false all c.loop-counter.invariant.0 c.loop-counter.invariant.1;
    }
