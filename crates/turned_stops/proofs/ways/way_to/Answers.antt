use Rattle.turned_stops.proofs.WayLemmas.{climb-begins, climb-turn}
use Rattle.turned_stops.proofs.ways.way_to.Goals as goal

pub climb-init : goal.climb-init
climb-init c = climb-begins c.args.arena.now.tree c.args.key c.new-way.result.items c.requires.live c.new-way.ensures.items

pub climb-smaller : goal.climb-smaller
climb-smaller c =
    (climb-turn c.args.arena.now.tree c.arena_holds_document.ensures.document.distinct c.args.key c.in-Some.node c.climb.link c.parent-link.result c.climb.way.items c.push.new.self.items
    c.climb.invariant c.in-Some.is c.in_ok-push.ensures.items c.parent-link.ensures.link c.parent-link.ensures.live).1

pub climb-preserved : goal.climb-preserved
climb-preserved c =
    (climb-turn c.args.arena.now.tree c.arena_holds_document.ensures.document.distinct c.args.key c.in-Some.node c.climb.link c.parent-link.result c.climb.way.items c.push.new.self.items
    c.climb.invariant c.in-Some.is c.in_ok-push.ensures.items c.parent-link.ensures.link c.parent-link.ensures.live).0
