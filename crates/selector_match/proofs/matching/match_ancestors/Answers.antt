use Rattle.std.proofs.Common.{ap, sym, ◌∙◌, arith, length}
use Rattle.selector_match.proofs.WalkLaws.{column-begins, column-takes, column-passes, column-lacks, column-ends}
use Rattle.selector_match.proofs.matching.match_ancestors.Goals as goal

pub ancestors-init : goal.ancestors-init
ancestors-init c = column-begins c.args.selector.now c.args.place c.args.element.now (c.in-Some.at, c.in-Some.left) c.in-Some.ensures.some

pub returns-in-None : goal.returns-in-None
returns-in-None c =
    sym (column-lacks c.args.selector.now c.args.place c.args.element.now c.ancestors.at c.ancestors.left c.in-Some-compound_before.compound.now c.ancestors.invariant c.in-Some-compound_before.ensures.some c.in-None.ensures.none)

pub ancestors-smaller-in-Some-match_from_ancestor : goal.ancestors-smaller-in-Some-match_from_ancestor
ancestors-smaller-in-Some-match_from_ancestor c = omega (arith, ap length c.in-Some-parent.ensures.some, c.in-Some-match_from_ancestor.ensures.some.fewer)

pub ancestors-preserved-in-Some-match_from_ancestor : goal.ancestors-preserved-in-Some-match_from_ancestor
ancestors-preserved-in-Some-match_from_ancestor c =
    column-takes c.args.selector.now c.args.place c.args.element.now c.ancestors.at c.in-Some-parent.parent c.ancestors.left c.in-Some-compound_before.compound.now (c.in-Some-match_from_ancestor.end, c.in-Some-match_from_ancestor.rest)
    c.ancestors.invariant c.in-Some-compound_before.ensures.some c.in-Some-parent.ensures.some c.in-Some-match_from_ancestor.ensures.yes c.in-Some-match_from_ancestor.ensures.some

pub ancestors-smaller : goal.ancestors-smaller
ancestors-smaller c = omega (arith, ap length c.in-Some-parent.ensures.some)

pub ancestors-preserved : goal.ancestors-preserved
ancestors-preserved c =
    column-passes c.args.selector.now c.args.place c.args.element.now c.ancestors.at c.in-Some-parent.parent c.ancestors.left c.in-Some-compound_before.compound.now
    c.ancestors.invariant c.in-Some-compound_before.ensures.some c.in-Some-parent.ensures.some c.in_default-match_from_ancestor.ensures.none

pub returns : goal.returns
returns c =
    sym (column-ends c.args.selector.now c.requires.whole c.args.place c.args.element.now c.ancestors.at c.ancestors.left c.requires.place c.ancestors.invariant c.in_default-compound_before.ensures.none)

pub returns-in-Some-recalled_whole : goal.returns-in-Some-recalled_whole
returns-in-Some-recalled_whole c =
    let passes = column-passes c.args.selector.now c.args.place c.args.element.now c.ancestors.at c.in-Some-parent.parent c.ancestors.left c.in-Some-compound_before.compound.now
    c.ancestors.invariant c.in-Some-compound_before.ensures.some c.in-Some-parent.ensures.some c.in_default-match_from_ancestor.ensures.none in
    c.in-Some-recalled_whole.ensures ∙ sym passes.same
