use Rattle.std.proofs.Common.{sym, arith}
use Rattle.forest.proofs.PathLaws.{parent-live}
use Rattle.forest.proofs.LevelLaws.{length-route, route-some, root-level, child-level}
use Rattle.node_arena.proofs.arena.Arena.level.Goals as goal

pub overflow_add-level : goal.overflow_add-level
overflow_add-level c =
    let tree = c.args.self.now.tree in
    let document = c.arena_holds_document.ensures.document in
    omega (arith, child-level tree c.climb.at c.in-Some.parent document.distinct c.climb.invariant.live (sym c.in-Some.ensures.link), route-some tree c.in-Some.parent (parent-live tree c.climb.at c.in-Some.parent document.distinct c.climb.invariant.live (sym c.in-Some.ensures.link)), length-route tree c.args.key c.requires, c.climb.invariant.counted, document.few)

pub climb-smaller : goal.climb-smaller
climb-smaller c = omega (arith, child-level c.args.self.now.tree c.climb.at c.in-Some.parent c.arena_holds_document.ensures.document.distinct c.climb.invariant.live (sym c.in-Some.ensures.link))

pub climb-preserved : goal.climb-preserved
climb-preserved c =
    let tree = c.args.self.now.tree in
    let document = c.arena_holds_document.ensures.document in
    record {
      live = parent-live tree c.climb.at c.in-Some.parent document.distinct c.climb.invariant.live (sym c.in-Some.ensures.link);
      some = omega arith;
      counted = omega (arith, child-level tree c.climb.at c.in-Some.parent document.distinct c.climb.invariant.live (sym c.in-Some.ensures.link), c.climb.invariant.counted);
    }

pub returns : goal.returns
returns c = omega (arith, root-level c.args.self.now.tree c.climb.at c.arena_holds_document.ensures.document.distinct c.climb.invariant.live (sym c.in_default.ensures.link), c.climb.invariant.counted)
