use Rattle.std.proofs.Common.{◌≡◌, filter, map, option_map, drop}
use Rattle.mini_cascade.specs.Greatest.{greater, greatest}
use Rattle.style_sources.specs.Properties.{declares}
use Rattle.style_sources.specs.Sources.{Placed, gives_way, winner}
use Rattle.style_sources.proofs.PlacedLaws.{placed_of}
use Rattle.style_sources.proofs.greatest.winner.Given as goal

abbrev pub invariant-loop-declaration : goal.invariant-loop-declaration
invariant-loop-declaration l =
    greater gives_way (option_map placed_of l.best) (greatest gives_way (filter (λ (p : Placed). declares l.property p.applied.what) (map placed_of (drop l.declaration-index l.declarations))))
    ≡ winner l.property (map placed_of l.declarations)
