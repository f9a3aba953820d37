use Rattle.std.proofs.Common.{◌∙◌, arith}
use Rattle.forest.specs.Order.{place_of}
use Rattle.forest.proofs.LevelLaws.{route-some}
use Rattle.node_arena.proofs.LevelFacts.{test-less, in-line, parted}
use Rattle.node_arena.proofs.arena.Arena.precedes.Goals as goal

pub ancestor-left-requires-clause-deep : goal.ancestor-left-requires-clause-deep
ancestor-left-requires-clause-deep c = omega (arith, route-some c.args.self.now.tree c.args.first c.requires.first, route-some c.args.self.now.tree c.args.second c.requires.second)

pub ancestor-right-requires-clause-deep : goal.ancestor-right-requires-clause-deep
ancestor-right-requires-clause-deep c = omega (arith, route-some c.args.self.now.tree c.args.first c.requires.first, route-some c.args.self.now.tree c.args.second c.requires.second)

pub returns-then-left-right : goal.returns-then-left-right
returns-then-left-right c =
    let tree = c.args.self.now.tree in
    test-less _ (place_of tree c.args.first) (place_of tree c.args.second)
    (in-line tree c.args.first c.args.second c.ancestor-left.result c.ancestor-right.result c.level-first_level.result c.level-second_level.result c.min-common.result c.arena_holds_document.ensures.document.distinct c.requires.first c.requires.second c.ancestor-left.ensures.live c.ancestor-right.ensures.live c.level-first_level.ensures c.level-second_level.ensures c.min-common.ensures c.ancestor-left.ensures.route c.ancestor-right.ensures.route c.if-left-right.true)

pub returns : goal.returns
returns c =
    let tree = c.args.self.now.tree in
    test-less _ (place_of tree c.args.first) (place_of tree c.args.second)
    (c.comes_before.ensures ∙ parted tree c.args.first c.args.second c.ancestor-left.result c.ancestor-right.result c.level-first_level.result c.level-second_level.result c.min-common.result c.arena_holds_document.ensures.document.distinct c.requires.first c.requires.second c.ancestor-left.ensures.live c.ancestor-right.ensures.live c.level-first_level.ensures c.level-second_level.ensures c.min-common.ensures c.ancestor-left.ensures.route c.ancestor-right.ensures.route c.if-left-right.false)
