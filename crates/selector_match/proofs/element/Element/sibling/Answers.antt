use Rattle.std.proofs.Common.{subst, ◌≡◌, []}
use Rattle.selector_match.specs.Elements.{Standing}
use Rattle.selector_match.specs.Positions.{siblings}
use Rattle.selector_match.specs.Machinery.Lookups.{standing_at, IsBeside}
use Rattle.selector_match.specs.Machinery.Sides.{is_later}
use Rattle.selector_match.proofs.WalkLaws.{none-so}
use Rattle.selector_match.proofs.element.Element.sibling.Goals as goal

pub returns-in_err-key-clause-none : goal.returns-in_err-key-clause-none
returns-in_err-key-clause-none c =
    none-so c.from_residual.result (subst (λ (s : Standing). siblings (is_later c.args.side) s.level ≡ []) c.self.view_is c.in_err-key.ensures.none)

pub invariant_of-result : goal.invariant_of-result
invariant_of-result c = (c.in_ok-key.ensures.some.live, c.in_ok-key.ensures.some.element, c.self.invariant.2)

pub returns : goal.returns
returns c =
    let beside = subst (λ (s : Standing). IsBeside (is_later c.args.side) s (standing_at c.self.inside.arena.now.tree c.in_ok-key.key)) c.self.view_is c.in_ok-key.ensures.some.beside in
    record { onward = beside.onward; back = beside.back; above = beside.above; none = tt }
