use Rattle.std.proofs.Common.{sym, ap, subst, ◌≡◌, ◌∷◌, []}
use Rattle.selector_match.specs.Elements.{Standing, ancestors, ancestors_in}
use Rattle.selector_match.specs.Machinery.Lookups.{standing_at}
use Rattle.selector_match.proofs.StandingLaws.{parent-element, parent-ancestors, root-alone}
use Rattle.selector_match.proofs.WalkLaws.{none-so}
use Rattle.selector_match.proofs.element.Element.parent.Goals as goal

pub returns-in_err-key-clause-none : goal.returns-in_err-key-clause-none
returns-in_err-key-clause-none c =
    none-so c.from_residual.result (subst (λ (s : Standing). ancestors s ≡ []) c.self.view_is
    (ap ancestors_in (root-alone c.self.inside.arena.now.tree c.arena_holds_document.ensures.document c.self.inside.key c.self.invariant.0 c.self.invariant.1 (sym c.in_err-key.ensures.link))))

pub invariant_of-result : goal.invariant_of-result
invariant_of-result c =
    (c.in_ok-key.ensures.live, parent-element c.self.inside.arena.now.tree c.arena_holds_document.ensures.document c.self.inside.key c.in_ok-key.key c.self.invariant.0 (sym c.in_ok-key.ensures.link), c.self.invariant.2)

pub returns-clause-some : goal.returns-clause-some
returns-clause-some c =
    let parent = standing_at c.self.inside.arena.now.tree c.in_ok-key.key in
    subst (λ (s : Standing). ancestors s ≡ parent ∷ ancestors parent) c.self.view_is
    (parent-ancestors c.self.inside.arena.now.tree c.arena_holds_document.ensures.document c.self.inside.key c.in_ok-key.key c.self.invariant.0 c.self.invariant.1 (sym c.in_ok-key.ensures.link))
