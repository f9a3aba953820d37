use Rattle.std.proofs.Common.{ap, sym, ◌∙◌, arith}
use Rattle.plain_types.specs.Building.{Building}
use Rattle.edit_script.specs.Draws.{drawn}
use Rattle.edit_script.proofs.SectionLaws.{draws-end, draws-more, section_drawn, sections-end, sections-more}
use Rattle.edit_script.proofs.sections.put_sections.Goals as goal

pub loop-number-preserved : goal.loop-number-preserved
loop-number-preserved c =
    let so_far = c.loop-number.invariant in
    record {
      inside = ap (λ (b : Building). b.inside) c.in_ok-put_section.ensures.ok ∙ so_far.inside;
      built =
          sections-more c.loop-number.builder c.put_section.new.builder c.args.count c.loop-number.number c.loop-number.draws.state c.draw-target.new.self.state (omega arith) c.draw-target.ensures.state
          (section_drawn c.loop-number.builder c.put_section.new.builder c.loop-number.number c.draw-target.result (drawn c.args.count c.draw-target.new.self.state) c.in_ok-put_section.ensures.ok c.draw-target.ensures.drawn)
          ∙ so_far.built;
      drawn =
          draws-more c.args.count c.loop-number.number c.loop-number.draws.state c.draw-target.new.self.state (omega arith) c.draw-target.ensures.state ∙ so_far.drawn;
    }

pub returns-clause-ok : goal.returns-clause-ok
returns-clause-ok c = sym (sections-end c.loop-number.builder c.args.count c.loop-number.number c.loop-number.draws.state (omega arith)) ∙ c.loop-number.invariant.built

pub returns-clause-state : goal.returns-clause-state
returns-clause-state c = sym (draws-end c.args.count c.loop-number.number c.loop-number.draws.state (omega arith)) ∙ c.loop-number.invariant.drawn
