use Rattle.std.proofs.Common.{◌≡◌}
use Rattle.plain_types.specs.declared.edit.Edit.{Edit}
use Rattle.std.proofs.lemmas.Result.{IfOk-weaker}
use Rattle.edit_script.specs.Generator.{edit_drawn, edit_of_kind}
use Rattle.edit_script.proofs.EditLaws.{always, edit-is, state-is}
use Rattle.edit_script.proofs.made_edits.draw_edit.Goals as goal

pub returns-clause-edit : goal.returns-clause-edit
returns-clause-edit c =
    IfOk-weaker c.edit_of_kind.result (λ (edit : Edit). edit ≡ edit_of_kind c.draw-kind.result c.draw-section.result c.draw-place.result c.draw_target-target.result)
    (λ (edit : Edit). edit ≡ edit_drawn c.args.sections c.args.draws.now.state)
    (λ edit made. edit-is c.args.sections c.args.draws.now.state c.draw-section.new.self.state c.draw-kind.new.self.state c.draw-place.new.self.state c.draw_target-target.new.draws.state
    c.draw-section.result c.draw-kind.result c.draw-place.result c.draw-section.ensures.state c.draw-kind.ensures.state c.draw-place.ensures.state c.draw_target-target.ensures.state
    c.draw-section.ensures.drawn c.draw-kind.ensures.drawn c.draw-place.ensures.drawn
    edit c.draw_target-target.result c.draw_target-target.ensures.target made)
    c.edit_of_kind.ensures.edit

pub returns-clause-state : goal.returns-clause-state
returns-clause-state c =
    always c.edit_of_kind.result (state-is c.args.sections c.args.draws.now.state c.draw-section.new.self.state c.draw-kind.new.self.state c.draw-place.new.self.state c.draw_target-target.new.draws.state
    c.draw-section.result c.draw-kind.result c.draw-place.result c.draw-section.ensures.state c.draw-kind.ensures.state c.draw-place.ensures.state c.draw_target-target.ensures.state
    c.draw-section.ensures.drawn c.draw-kind.ensures.drawn c.draw-place.ensures.drawn)
