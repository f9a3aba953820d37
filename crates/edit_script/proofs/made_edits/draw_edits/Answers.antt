use Rattle.std.proofs.Common.{◌∙◌, arith, sym}
use Rattle.edit_script.proofs.EditLaws.{edits-end, edits-more}
use Rattle.edit_script.proofs.made_edits.draw_edits.Goals as goal

pub loop-preserved : goal.loop-preserved
loop-preserved c =
    edits-more c.args.sections c.args.count c.loop.counter c.loop.draws.state c.draw_edit.new.draws.state c.loop.list c.push.new.self c.in_ok-draw_edit.field-0 (omega arith)
    c.in_ok-draw_edit.ensures.edit c.in_ok-draw_edit.ensures.state c.in_ok-push.ensures.ok
    ∙ c.loop.invariant

pub returns : goal.returns
returns c = record { edits = sym (edits-end c.args.sections c.args.count c.loop.counter c.loop.draws.state c.loop.list (omega arith)) ∙ c.loop.invariant }
