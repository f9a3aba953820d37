use Rattle.std.proofs.Common.{◌<◌, length, arith, ◌∙◌}
use Rattle.counter_style_table.proofs.SettledLemmas.{done_by}
use Rattle.counter_style_table.proofs.DescentLemmas.{sets_out, ends_finished, ends_on_cycle}
use Rattle.counter_style_table.proofs.finish.descend.Goals as goal

pub down-init : goal.down-init
down-init c = rw c.new-path.ensures.items (sets_out c.args.rules.now c.args.styles.now c.args.start _ c.requires.room c.requires.start c.requires.marked)

pub returns-then-is_some-clause-descent : goal.returns-then-is_some-clause-descent
returns-then-is_some-clause-descent c =
    let inside : c.down.at < length c.args.styles.now = omega (arith, c.down.invariant.here, c.requires.settled.room) in
    ends_finished c.args.rules.now c.args.styles.now c.args.start c.down.begun c.down.at _ c.down.invariant c.requires.settled c.down-test.false
    (done_by c.args.styles.now c.down.at c.index-styles-at.result c.is_some.result inside c.index-styles-at.is c.is_some.ensures ∙ c.if-is_some.true)

pub returns-else-is_some-clause-descent : goal.returns-else-is_some-clause-descent
returns-else-is_some-clause-descent c =
    let inside : c.down.at < length c.args.styles.now = omega (arith, c.down.invariant.here, c.requires.settled.room) in
    ends_on_cycle c.args.rules.now c.args.styles.now c.args.start c.down.begun c.down.at _ c.down.invariant c.down-test.false
    (done_by c.args.styles.now c.down.at c.index-styles-at.result c.is_some.result inside c.index-styles-at.is c.is_some.ensures ∙ c.if-is_some.false)
