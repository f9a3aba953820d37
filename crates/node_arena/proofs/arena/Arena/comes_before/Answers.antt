use Rattle.std.proofs.Common.{nat_lt, sym, ap₂, ◌∙◌, arith}
use Rattle.forest.proofs.PathLaws.{parent-live}
use Rattle.forest.proofs.LevelLaws.{child-level, comes-parents, comes-siblings}
use Rattle.node_arena.proofs.arena.Arena.comes_before.Goals as goal

pub climb-smaller : goal.climb-smaller
climb-smaller c = omega (arith, child-level c.args.self.now.tree c.climb.left c.in-Some.above_left c.arena_holds_document.ensures.document.distinct c.climb.invariant.left c.in-Some.ensures.some.first_parent)

pub climb-preserved : goal.climb-preserved
climb-preserved c =
    let tree = c.args.self.now.tree in
    let distinct = c.arena_holds_document.ensures.document.distinct in
    let above = c.in-Some.ensures.some in
    record {
      left = parent-live tree c.climb.left c.in-Some.above_left distinct c.climb.invariant.left above.first_parent;
      right = parent-live tree c.climb.right c.in-Some.above_right distinct c.climb.invariant.right above.second_parent;
      level = omega (arith, c.climb.invariant.level, child-level tree c.climb.left c.in-Some.above_left distinct c.climb.invariant.left above.first_parent, child-level tree c.climb.right c.in-Some.above_right distinct c.climb.invariant.right above.second_parent);
      same = c.climb.invariant.same ∙ comes-parents tree c.climb.left c.climb.right c.in-Some.above_left c.in-Some.above_right distinct c.climb.invariant.left c.climb.invariant.right above.first_parent above.second_parent above.differ c.climb.invariant.level;
    }

pub returns : goal.returns
returns c =
    ap₂ nat_lt c.index_of.ensures c.index_of-2.ensures
    ∙ sym (c.climb.invariant.same ∙ comes-siblings c.args.self.now.tree c.climb.left c.climb.right c.arena_holds_document.ensures.document.distinct c.climb.invariant.left c.climb.invariant.right c.in_default.ensures.none)
