use Rattle.std.specs.List.{All}
use Rattle.forest.specs.Spots.{IsLive}
use Rattle.benchmarks.proofs.element_styles.keys_of.Given as goal

abbrev pub invariant-walk : goal.invariant-walk
invariant-walk l = record {
  live : IsLive l.arena.tree l.at;
  kept : All (IsLive l.arena.tree) l.keys.items;
}
