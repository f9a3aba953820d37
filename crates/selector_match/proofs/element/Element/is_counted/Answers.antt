use Rattle.std.proofs.Common.{sym, ap, ◌∙◌, ◌||◌, not}
use Rattle.std.specs.Str.{bytes_eq}
use Rattle.selector_match.specs.Elements.{Standing}
use Rattle.selector_match.specs.Machinery.Lookups.{standing_at}
use Rattle.selector_match.proofs.StandingLaws.{element-name}
use Rattle.selector_match.proofs.TextLaws.{same-names}
use Rattle.selector_match.proofs.element.Element.is_counted.Goals as goal

pub returns-else-not-same_type : goal.returns-else-not-same_type
returns-else-not-same_type c =
    c.eq.ensures
    ∙ same-names _ _ _ _ _ _ c.name.ensures.characters c.name.ensures.bytes
    (element-name c.sibling.inside.arena.now.tree c.arena_holds_document-2.ensures.document c.sibling.inside.key c.sibling.invariant.0 c.sibling.invariant.1)
    c.name-else-not-same_type.ensures.characters c.name-else-not-same_type.ensures.bytes
    (element-name c.self.inside.arena.now.tree c.arena_holds_document.ensures.document c.self.inside.key c.self.invariant.0 c.self.invariant.1)
    ∙ ap (λ (s : Standing). bytes_eq s.level.element.name (standing_at c.self.inside.arena.now.tree c.self.inside.key).level.element.name) c.sibling.view_is
    ∙ ap (λ (s : Standing). bytes_eq c.args.sibling.now.level.element.name s.level.element.name) c.self.view_is
    ∙ sym (ap (λ b. not b || bytes_eq c.args.sibling.now.level.element.name c.args.self.now.level.element.name) c.if-not-same_type.false)
