use Rattle.std.proofs.Common.{◌≡◌, take}
use Rattle.std.specs.Prelude.{All}
use Rattle.start_reach.specs.TurnedElements.{with_ways_to}
use Rattle.turned_stops.proofs.StopLemmas.{Link}
use Rattle.turned_stops.proofs.ways.with_ways.Given as goal

abbrev pub invariant-loop-key : goal.invariant-loop-key
invariant-loop-key l = record {
  links : All (Link l.arena.tree) l.all.items;
  ways : l.all.items ≡ with_ways_to l.arena.tree (take l.key-index l.keys) l.stops;
}
