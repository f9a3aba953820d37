use Rattle.std.proofs.Common.{sym, ap, ◌∙◌, slice_get, arith}
use Rattle.forest.proofs.PathLaws.{parent-live}
use Rattle.forest.proofs.WalkLaws.{names, next-child, next-left, left-sibling, left-parent, left-nothing, shorter-route}
use Rattle.node_arena.proofs.arena.Arena.next_in_order.Goals as goal

pub returns-in-Some-clause-link : goal.returns-in-Some-clause-link
returns-in-Some-clause-link c = sym (next-child c.args.self.now.tree c.args.key c.in-Some.child c.arena_holds_document.ensures.document.distinct c.requires (sym c.in-Some.ensures.link))

pub returns-in-Some-next_sibling-clause-link : goal.returns-in-Some-next_sibling-clause-link
returns-in-Some-next_sibling-clause-link c =
    sym (next-left c.args.self.now.tree c.args.key c.arena_holds_document.ensures.document.distinct c.requires (sym c.in_default.ensures.link)
    ∙ ap (λ rest. slice_get (names rest) 0) (sym c.climb.invariant.same)
    ∙ left-sibling c.args.self.now.tree c.climb.at c.in-Some-next_sibling.next c.arena_holds_document.ensures.document.distinct c.climb.invariant.live (sym c.in-Some-next_sibling.ensures.link))

pub climb-smaller : goal.climb-smaller
climb-smaller c = omega (arith, shorter-route c.args.self.now.tree c.climb.at c.in-Some-parent.parent c.arena_holds_document.ensures.document.distinct c.climb.invariant.live (sym c.in-Some-parent.ensures.link))

pub climb-preserved : goal.climb-preserved
climb-preserved c = record {
  live = parent-live c.args.self.now.tree c.climb.at c.in-Some-parent.parent c.arena_holds_document.ensures.document.distinct c.climb.invariant.live (sym c.in-Some-parent.ensures.link);
  same = sym (left-parent c.args.self.now.tree c.climb.at c.in-Some-parent.parent c.arena_holds_document.ensures.document.distinct c.climb.invariant.live (sym c.in_default-next_sibling.ensures.link) (sym c.in-Some-parent.ensures.link)) ∙ c.climb.invariant.same;
}

pub returns-in-None-clause-link : goal.returns-in-None-clause-link
returns-in-None-clause-link c =
    sym (next-left c.args.self.now.tree c.args.key c.arena_holds_document.ensures.document.distinct c.requires (sym c.in_default.ensures.link)
    ∙ ap (λ rest. slice_get (names rest) 0) (sym c.climb.invariant.same ∙ left-nothing c.args.self.now.tree c.climb.at c.arena_holds_document.ensures.document.distinct c.climb.invariant.live (sym c.in_default-next_sibling.ensures.link) (sym c.in-None.ensures.link)))
