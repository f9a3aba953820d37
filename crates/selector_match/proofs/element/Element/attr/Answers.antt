use Rattle.std.proofs.Common.{ap, ◌∙◌}
use Rattle.std.specs.Str.{chars}
use Rattle.plain_types.specs.Attributes.{value_of}
use Rattle.selector_match.specs.Elements.{Standing}
use Rattle.selector_match.proofs.StandingLaws.{element-attrs}
use Rattle.selector_match.proofs.element.Element.attr.Goals as goal

pub returns : goal.returns
returns c =
    c.attr.ensures.characters
    ∙ ap (value_of (chars c.args.name.now)) (element-attrs c.self.inside.arena.now.tree c.arena_holds_document.ensures.document c.self.inside.key c.self.invariant.0 c.self.invariant.1)
    ∙ ap (λ (s : Standing). value_of (chars c.args.name.now) s.level.element.attrs) c.self.view_is
