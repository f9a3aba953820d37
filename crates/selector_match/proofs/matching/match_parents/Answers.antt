use Rattle.std.proofs.Common.{arith}
use Rattle.selector_match.proofs.WalkLaws.{none-so, up-begins, up-turn, up-fails, up-lacks, up-ends}
use Rattle.selector_match.proofs.matching.match_parents.Goals as goal

pub parents-init : goal.parents-init
parents-init c = up-begins c.args.selector.now c.args.place c.args.element.now c.same-at.result c.same-at.ensures c.requires.row_done

pub returns-in_err-at-clause-none : goal.returns-in_err-at-clause-none
returns-in_err-at-clause-none c =
    none-so c.from_residual.result (up-lacks c.args.selector.now c.args.place c.args.element.now c.parents.at c.parents.left c.in-Some.compound.now c.parents.invariant c.in-Some.ensures.some c.in_err-at.ensures.none)

pub returns-in_err-left-clause-none : goal.returns-in_err-left-clause-none
returns-in_err-left-clause-none c =
    none-so c.from_residual-in_err-left.result (up-fails c.args.selector.now c.args.place c.args.element.now c.parents.at c.in_ok-at.at c.parents.left c.in-Some.compound.now c.parents.invariant c.in-Some.ensures.some c.in_ok-at.ensures.some c.in_err-left.ensures.none)

pub parents-smaller : goal.parents-smaller
parents-smaller c = omega (arith, c.in-Some.ensures.some.some, c.in_ok-left.ensures.some.fewer)

pub parents-preserved : goal.parents-preserved
parents-preserved c =
    up-turn c.args.selector.now c.args.place c.args.element.now c.parents.at c.in_ok-at.at c.parents.left c.in_ok-left.left c.in-Some.compound.now
    c.parents.invariant c.in-Some.ensures.some c.in_ok-at.ensures.some c.in_ok-left.ensures.yes c.in_ok-left.ensures.some

pub returns-clause-some : goal.returns-clause-some
returns-clause-some c =
    up-ends c.args.selector.now c.requires.whole c.args.place c.args.element.now c.parents.at c.parents.left c.requires.place c.parents.invariant c.in_default.ensures.none
