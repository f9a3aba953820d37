use Rattle.std.specs.Prelude.{◌≡◌, drop}
use Rattle.reversed_start.specs.Starts.{start, start_after}
use Rattle.reversed_start.proofs.start_of.Given as goal

abbrev pub invariant-loop-event : goal.invariant-loop-event
invariant-loop-event l = start_after l.total l.latest (drop l.event-index l.events) ≡ start l.events
