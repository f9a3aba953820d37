use Rattle.std.proofs.Common.{◌≡◌, length}
use Rattle.forest.specs.Paths.{route_of}
use Rattle.forest.specs.Spots.{IsLive}
use Rattle.style_reach.specs.TouchedSheets.{is_in_style}
use Rattle.style_reach.proofs.style_elements.is_in_style.Given as goal

abbrev pub invariant-climb : goal.invariant-climb
invariant-climb l = record {
  live : IsLive l.arena.tree l.at;
  same : is_in_style l.arena.tree l.at ≡ is_in_style l.arena.tree l.fn.key;
}

abbrev pub decreases-climb : goal.decreases-climb
decreases-climb l = length (route_of l.arena.tree l.at)
