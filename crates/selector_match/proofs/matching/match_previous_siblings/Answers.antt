use Rattle.std.proofs.Common.{sym, ◌∙◌}
use Rattle.selector_match.proofs.WalkLaws.{none-so, next-begins, next-turn, next-fails, next-lacks, next-ends}
use Rattle.selector_match.proofs.matching.match_previous_siblings.Goals as goal

pub previous-init : goal.previous-init
previous-init c = next-begins c.args.selector.now c.args.place c.args.element.now c.same-at.result c.same-at.ensures

pub returns-in_err-at-clause-none : goal.returns-in_err-at-clause-none
returns-in_err-at-clause-none c =
    none-so c.from_residual.result (next-lacks c.args.selector.now c.args.place c.args.element.now c.previous.at c.previous.left c.in-Some.compound.now c.previous.invariant c.in-Some.ensures.some c.in_err-at.ensures.none)

pub returns-then-not-matches_compound-clause-none : goal.returns-then-not-matches_compound-clause-none
returns-then-not-matches_compound-clause-none c =
    next-fails c.args.selector.now c.args.place c.args.element.now c.previous.at c.in_ok-at.at c.previous.left c.in-Some.compound.now c.previous.invariant c.in-Some.ensures.some c.in_ok-at.ensures.some
    (sym c.matches_compound.ensures ∙ c.if-not-matches_compound.true)

pub previous-preserved : goal.previous-preserved
previous-preserved c =
    next-turn c.args.selector.now c.args.place c.args.element.now c.previous.at c.in_ok-at.at c.previous.left c.in-Some.compound.now c.previous.invariant c.in-Some.ensures.some c.in_ok-at.ensures.some c.in_ok-at.ensures.above
    (sym c.matches_compound.ensures ∙ c.if-not-matches_compound.false)

pub returns-clause-some : goal.returns-clause-some
returns-clause-some c =
    next-ends c.args.selector.now c.requires.whole c.args.place c.args.element.now c.previous.at c.previous.left c.requires.place c.previous.invariant c.in_default.ensures.none
