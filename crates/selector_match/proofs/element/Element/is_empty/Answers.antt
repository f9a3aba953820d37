use Rattle.std.proofs.Common.{ap, ◌∙◌}
use Rattle.selector_match.specs.Elements.{Standing}
use Rattle.selector_match.proofs.StandingLaws.{element-empty}
use Rattle.selector_match.proofs.element.Element.is_empty.Goals as goal

pub returns : goal.returns
returns c =
    c.is_empty.ensures
    ∙ element-empty c.self.inside.arena.now.tree c.arena_holds_document.ensures.document c.self.inside.key c.self.invariant.0 c.self.invariant.1
    ∙ ap (λ (s : Standing). s.level.element.is_empty) c.self.view_is
