use Rattle.std.proofs.Common.{Some, ap, ◌∙◌, refl, sym}
use Rattle.std.proofs.lemmas.Str.{encodes-chars}
use Rattle.std.specs.Str.{bytes_eq, chars}
use Rattle.selector_match.specs.Elements.{Standing}
use Rattle.selector_match.proofs.StandingLaws.{element-name}
use Rattle.selector_match.proofs.TextLaws.{same-names}
use Rattle.selector_match.proofs.element.Element.is_named.Goals as goal

pub returns : goal.returns
returns c =
    c.eq.ensures
    ∙ same-names _ _ _ (Some (chars c.args.name.now)) _ _ c.name.ensures.characters c.name.ensures.bytes
    (element-name c.self.inside.arena.now.tree c.arena_holds_document.ensures.document c.self.inside.key c.self.invariant.0 c.self.invariant.1)
    refl (ap (λ x. Some x) (sym (encodes-chars c.args.name.now c.utf8.name))) refl
    ∙ ap (λ (s : Standing). bytes_eq s.level.element.name (chars c.args.name.now)) c.self.view_is
