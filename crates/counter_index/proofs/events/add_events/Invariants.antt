use Rattle.std.proofs.Common.{◌≡◌, ◌++◌, drop}
use Rattle.std.specs.Str.{chars}
use Rattle.box_eval.specs.Starts.{events_of}
use Rattle.counter_index.proofs.events.add_events.Given as goal

abbrev pub invariant-loop-change : goal.invariant-loop-change
invariant-loop-change l =
    l.events ++ events_of (drop l.change-index l.changes) l.creator (chars l.name) ≡ l.initial.events ++ events_of l.changes l.creator (chars l.name)
