use Rattle.std.proofs.Common.{◌∙◌, ◌∷◌, Option, ap}
use Rattle.document_walk.specs.declared.opened.Opened.{Opened}
use Rattle.document_walk.specs.Catching.{frames_of, inside_opened, with_changes}
use Rattle.document_walk.specs.Walking.{changes_before}
use Rattle.document_walk.proofs.catching.Catching.enter.Goals as goal

pub returns-clause-entered : goal.returns-clause-entered
returns-clause-entered g c =
    let walk = c.args.self.now in
    let made = c.in_ok-opened.ensures.opened in
    record {
      frames = c.in_ok-go_inside.ensures.frames ∙ ap (λ (opened : Option Opened). record { key = c.args.key; opened = opened; handed = walk.around; fresh = c.args.fresh } ∷ frames_of walk) made;
      around = c.in_ok-go_inside.ensures.around ∙ c.in_ok-inside.ensures.inside ∙ ap inside_opened (c.as_ref-2.ensures.value ∙ made);
      link = c.first_child-self.ensures.link;
      stops = c.in_ok-go_inside.ensures.stops;
      told = c.in_ok-go_inside.ensures.told;
      changes =
          c.in_ok-go_inside.ensures.changes ∙ c.in_ok-collect_opened.ensures.collected
          ∙ ap (λ (opened : Option Opened). with_changes walk.changes (changes_before opened)) (c.as_ref.ensures.value ∙ made);
    }
