use Rattle.std.proofs.Common.{◌++◌}
use Rattle.std.specs.Str.{chars}
use Rattle.forest.specs.Spots.{children_of}
use Rattle.box_eval.specs.Starts.{events_of}
use Rattle.scope_deeds.specs.KeptScopes.{kept_changes}
use Rattle.counter_index.specs.Indexes.{countings}
use Rattle.counter_index.proofs.EventTurns.{begins_under, leave_turn, reach_turn}
use Rattle.counter_index.proofs.events.add_under.Goals as goal

pub walk-init : goal.walk-init
walk-init c =
    rw (c.new-inside.ensures.items, c.first_child-link.ensures.link)
    (begins_under c.args.arena.now.tree (countings c.args.deeds.now.held) c.args.creator (chars c.args.name.now) c.arena_holds_document.ensures.document.distinct c.args.key c.args.events.now c.requires.live)

-- a node is reached
pub walk-smaller-in-Some : goal.walk-smaller-in-Some
walk-smaller-in-Some c =
    (reach_turn c.args.arena.now.tree (countings c.args.deeds.now.held) c.args.creator (chars c.args.name.now) c.arena_holds_document.ensures.document.distinct
    (c.args.events.now ++ events_of (kept_changes (countings c.args.deeds.now.held) (children_of c.args.arena.now.tree c.args.key)) c.args.creator (chars c.args.name.now))
    c.walk.inside.items c.push.new.self.items c.walk.link c.first_child-link-in-Some.result c.in-Some.node c.walk.events c.add_before.new.events
    c.walk.invariant c.in-Some.is c.in_ok-add_before-in-Some.ensures.ok c.in_ok-push-in-Some.ensures.items c.first_child-link-in-Some.ensures.link).1

pub walk-preserved-in-Some : goal.walk-preserved-in-Some
walk-preserved-in-Some c =
    (reach_turn c.args.arena.now.tree (countings c.args.deeds.now.held) c.args.creator (chars c.args.name.now) c.arena_holds_document.ensures.document.distinct
    (c.args.events.now ++ events_of (kept_changes (countings c.args.deeds.now.held) (children_of c.args.arena.now.tree c.args.key)) c.args.creator (chars c.args.name.now))
    c.walk.inside.items c.push.new.self.items c.walk.link c.first_child-link-in-Some.result c.in-Some.node c.walk.events c.add_before.new.events
    c.walk.invariant c.in-Some.is c.in_ok-add_before-in-Some.ensures.ok c.in_ok-push-in-Some.ensures.items c.first_child-link-in-Some.ensures.link).0

-- a node is left
pub walk-smaller : goal.walk-smaller
walk-smaller c =
    (leave_turn c.args.arena.now.tree (countings c.args.deeds.now.held) c.args.creator (chars c.args.name.now) c.arena_holds_document.ensures.document.distinct
    (c.args.events.now ++ events_of (kept_changes (countings c.args.deeds.now.held) (children_of c.args.arena.now.tree c.args.key)) c.args.creator (chars c.args.name.now))
    c.walk.inside.items c.pop.new.self.items c.walk.link c.next_sibling-link.result c.in-Some-pop.node c.walk.events c.add_after.new.events
    c.walk.invariant c.in-None.is c.in-Some-pop.ensures.items c.in_ok-add_after-in-Some-pop.ensures.ok c.next_sibling-link.ensures.link).1

pub walk-preserved : goal.walk-preserved
walk-preserved c =
    (leave_turn c.args.arena.now.tree (countings c.args.deeds.now.held) c.args.creator (chars c.args.name.now) c.arena_holds_document.ensures.document.distinct
    (c.args.events.now ++ events_of (kept_changes (countings c.args.deeds.now.held) (children_of c.args.arena.now.tree c.args.key)) c.args.creator (chars c.args.name.now))
    c.walk.inside.items c.pop.new.self.items c.walk.link c.next_sibling-link.result c.in-Some-pop.node c.walk.events c.add_after.new.events
    c.walk.invariant c.in-None.is c.in-Some-pop.ensures.items c.in_ok-add_after-in-Some-pop.ensures.ok c.next_sibling-link.ensures.link).0
