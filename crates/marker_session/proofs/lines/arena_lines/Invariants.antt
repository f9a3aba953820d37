use Rattle.std.proofs.Common.{◌≡◌, ◌≤◌, ◌+◌, ◌-◌, flat_map, length, take}
use Rattle.forest.specs.Keys.{keys}
use Rattle.forest.specs.Order.{place_of}
use Rattle.forest.specs.Spots.{IsLive}
use Rattle.marker_session.proofs.LineWalk.{elements_before, shown_at}
use Rattle.marker_session.proofs.lines.arena_lines.Given as goal

abbrev pub invariant-walk : goal.invariant-walk
invariant-walk g l = record {
  live : IsLive l.arena.tree l.at;
  gathered : l.lines.items ≡ flat_map (shown_at l.arena.tree l.book) (take (place_of l.arena.tree l.at) (keys l.arena.tree));
  spent : l.steps ≤ l.fn.steps + elements_before l.arena.tree l.at;
}

abbrev pub decreases-walk : goal.decreases-walk
decreases-walk g l = length (keys l.arena.tree) - place_of l.arena.tree l.at
