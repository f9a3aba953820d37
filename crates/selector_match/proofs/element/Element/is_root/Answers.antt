use Rattle.std.proofs.Common.{ap, ◌∙◌}
use Rattle.selector_match.specs.Elements.{is_root}
use Rattle.selector_match.proofs.StandingLaws.{root-test}
use Rattle.selector_match.proofs.element.Element.is_root.Goals as goal

pub returns : goal.returns
returns c =
    root-test c.self.inside.arena.now.tree c.arena_holds_document.ensures.document c.self.inside.key c.parent.result c.is_none.result c.self.invariant.0 c.self.invariant.1 c.parent.ensures.link c.is_none.ensures
    ∙ ap is_root c.self.view_is
