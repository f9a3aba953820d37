use Rattle.std.proofs.Common.{ap, arith, length}
use Rattle.selector_match.proofs.WalkLaws.{none-so, row-begins, row-takes, row-passes, row-lacks, row-ends, row-recalls, tells-end, tells-none}
use Rattle.selector_match.proofs.matching.match_earlier_siblings.Goals as goal

pub returns-in_err-at-2-clause-none : goal.returns-in_err-at-2-clause-none
returns-in_err-at-2-clause-none c =
    none-so c.from_residual-in_err-at-2.result (row-lacks c.args.selector.now c.args.place c.args.element.now c.earlier.at c.earlier.left c.in-Some.compound.now c.earlier.invariant c.in-Some.ensures.some c.in_err-at-2.ensures.none)

pub earlier-init : goal.earlier-init
earlier-init c = row-begins c.args.selector.now c.args.place c.args.element.now (c.in_ok-at.at, c.in_ok-at.left) c.in_ok-at.ensures.some

pub earlier-smaller-in-Some-match_from_sibling : goal.earlier-smaller-in-Some-match_from_sibling
earlier-smaller-in-Some-match_from_sibling c = omega (arith, ap length c.in_ok-at-2.ensures.some, c.in-Some-match_from_sibling.ensures.some.fewer)

pub earlier-preserved-in-Some-match_from_sibling : goal.earlier-preserved-in-Some-match_from_sibling
earlier-preserved-in-Some-match_from_sibling c =
    row-takes c.args.selector.now c.args.place c.args.element.now c.earlier.at c.in_ok-at-2.at c.earlier.left c.in-Some.compound.now (c.in-Some-match_from_sibling.end, c.in-Some-match_from_sibling.rest)
    c.earlier.invariant c.in-Some.ensures.some c.in_ok-at-2.ensures.some c.in_ok-at-2.ensures.above c.in-Some-match_from_sibling.ensures.yes c.in-Some-match_from_sibling.ensures.some

pub earlier-smaller : goal.earlier-smaller
earlier-smaller c = omega (arith, ap length c.in_ok-at-2.ensures.some)

pub earlier-preserved : goal.earlier-preserved
earlier-preserved c =
    row-passes c.args.selector.now c.args.place c.args.element.now c.earlier.at c.in_ok-at-2.at c.earlier.left c.in-Some.compound.now
    c.earlier.invariant c.in-Some.ensures.some c.in_ok-at-2.ensures.some c.in_ok-at-2.ensures.above c.in_default-match_from_sibling.ensures.none

pub returns-clause-some : goal.returns-clause-some
returns-clause-some c =
    row-ends c.args.selector.now c.requires.whole c.args.place c.args.element.now c.earlier.at c.earlier.left c.requires.place c.earlier.invariant c.in_default.ensures.none

pub returns-in-Some-recalled : goal.returns-in-Some-recalled
returns-in-Some-recalled c =
    let passes = row-passes c.args.selector.now c.args.place c.args.element.now c.earlier.at c.in_ok-at-2.at c.earlier.left c.in-Some.compound.now
    c.earlier.invariant c.in-Some.ensures.some c.in_ok-at-2.ensures.some c.in_ok-at-2.ensures.above c.in_default-match_from_sibling.ensures.none in
    let is = row-recalls c.args.selector.now c.requires.whole c.args.place c.args.element.now c.in_ok-at-2.at c.earlier.left c.in-Some-recalled.outcome c.requires.place passes c.in-Some-recalled.ensures in
    record { some = tells-end c.args.selector.now c.args.place c.args.element.now c.in-Some-recalled.outcome is; none = tells-none c.args.selector.now c.args.place c.args.element.now c.in-Some-recalled.outcome is }
