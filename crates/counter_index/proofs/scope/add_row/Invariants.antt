use Rattle.std.proofs.Common.{◌++◌}
use Rattle.std.specs.Str.{chars}
use Rattle.forest.specs.Forest.{size}
use Rattle.forest.specs.Spots.{on_link}
use Rattle.box_eval.specs.Starts.{events_of}
use Rattle.scope_deeds.specs.KeptScopes.{kept_row}
use Rattle.counter_index.specs.Indexes.{countings}
use Rattle.counter_index.proofs.RowTurns.{IsRow}
use Rattle.counter_index.proofs.scope.add_row.Given as goal

abbrev pub invariant-row : goal.invariant-row
invariant-row l =
    IsRow l.arena.tree (countings l.deeds.held) l.creator (chars l.name)
    (l.fn.events ++ events_of (kept_row (countings l.deeds.held) l.creator (chars l.name) (on_link l.arena.tree l.fn.first)) l.creator (chars l.name)) l.link l.events

abbrev pub decreases-row : goal.decreases-row
decreases-row l = size (on_link l.arena.tree l.link)
