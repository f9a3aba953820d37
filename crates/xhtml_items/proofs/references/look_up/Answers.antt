use Rattle.std.proofs.Common.{sym, ◌∙◌, arith}
use Rattle.xhtml_items.proofs.Texts.{look_on, look_here}
use Rattle.xhtml_items.proofs.references.look_up.Goals as goal

pub returns-then-eq : goal.returns-then-eq
returns-then-eq c =
    sym (c.loop-key.invariant ∙ look_here c.args.table.now c.args.name.now c.loop-key.key-index _ (omega arith) (sym c.eq.ensures ∙ c.if-eq.true))

pub loop-key-preserved : goal.loop-key-preserved
loop-key-preserved c =
    c.loop-key.invariant ∙ look_on c.args.table.now c.args.name.now c.loop-key.key-index _ (omega arith) (sym c.eq.ensures ∙ c.if-eq.false)
