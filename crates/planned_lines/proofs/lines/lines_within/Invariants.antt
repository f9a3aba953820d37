use Rattle.std.proofs.Common.{◌≡◌, ◌≤◌, ◌+◌, ◌-◌, flat_map, length, take}
use Rattle.forest.specs.Keys.{keys}
use Rattle.forest.specs.Order.{place_of}
use Rattle.forest.specs.Spots.{IsLive}
use Rattle.planned_lines.proofs.LookedUp.{looked_before}
use Rattle.planned_lines.proofs.PlannedLines.{put_in, told}
use Rattle.planned_lines.proofs.lines.lines_within.Given as goal

abbrev pub invariant-walk : goal.invariant-walk
invariant-walk g l = record {
  live : IsLive l.arena.tree l.at;
  gathered : l.lines.items ≡ flat_map (told l.arena.tree l.book.kept (put_in l.changes)) (take (place_of l.arena.tree l.at) (keys l.arena.tree));
  spent : l.steps ≤ l.fn.steps + looked_before (put_in l.changes) l.arena.tree l.at;
}

abbrev pub decreases-walk : goal.decreases-walk
decreases-walk g l = length (keys l.arena.tree) - place_of l.arena.tree l.at
