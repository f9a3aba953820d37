use Rattle.std.proofs.Common.{◌≡◌, ◌-◌, flat_map, length, take}
use Rattle.forest.specs.Keys.{keys}
use Rattle.forest.specs.Order.{place_of}
use Rattle.forest.specs.Spots.{IsLive}
use Rattle.dirty_walk.proofs.IdLemmas.{id_change}
use Rattle.dirty_walk.proofs.index.id_changes.Given as goal

abbrev pub invariant-walk : goal.invariant-walk
invariant-walk l = record {
  live : IsLive l.arena.tree l.at;
  made : l.changes ≡ flat_map (id_change l.arena.tree) (take (place_of l.arena.tree l.at) (keys l.arena.tree));
}

abbrev pub decreases-walk : goal.decreases-walk
decreases-walk l = length (keys l.arena.tree) - place_of l.arena.tree l.at
