use Rattle.std.proofs.Common.{reverse, arith}
use Rattle.counter_style_table.proofs.SettledLemmas.{finished_none, finished_more, finished_all}
use Rattle.counter_style_table.proofs.finish.finish_others.Goals as goal

pub loop-start-init : goal.loop-start-init
loop-start-init c = finished_none c.args.rules.now c.args.styles.now c.args.begun.now c.requires.settled c.requires.marked

pub loop-start-preserved : goal.loop-start-preserved
loop-start-preserved c =
    finished_more c.args.rules.now c.loop-start.styles c.ascend.new.styles c.loop-start.begun c.descend.new.begun c.loop-start.start (reverse c.in_ok-descent.descent.path.items)
    c.loop-start.invariant c.in_ok-ascend.ensures.settled c.descend.auto.begun c.in_ok-descent.ensures.marked c.in_ok-ascend.ensures.done c.in_ok-descent.ensures.start

pub returns : goal.returns
returns c = record { styles = finished_all c.args.rules.now c.loop-start.styles c.loop-start.begun c.loop-start.start (omega (arith, c.loop-start-test.false, c.len-start-end.ensures.length)) c.loop-start.invariant }
