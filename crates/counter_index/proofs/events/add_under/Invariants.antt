use Rattle.std.proofs.Common.{◌++◌, reverse}
use Rattle.std.specs.Str.{chars}
use Rattle.forest.specs.Spots.{children_of}
use Rattle.box_eval.specs.Starts.{events_of}
use Rattle.scope_deeds.specs.KeptScopes.{kept_changes}
use Rattle.counter_index.specs.Indexes.{countings}
use Rattle.counter_index.proofs.EventTurns.{Gathers, turns_left}
use Rattle.counter_index.proofs.events.add_under.Given as goal

abbrev pub invariant-walk : goal.invariant-walk
invariant-walk l =
    Gathers l.arena.tree (countings l.deeds.held) l.creator (chars l.name)
    (l.fn.events ++ events_of (kept_changes (countings l.deeds.held) (children_of l.arena.tree l.key)) l.creator (chars l.name))
    (reverse l.inside.items) l.link l.events

abbrev pub decreases-walk : goal.decreases-walk
decreases-walk l = turns_left l.arena.tree (countings l.deeds.held) (reverse l.inside.items) l.link
