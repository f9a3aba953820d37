use Rattle.std.proofs.Common.{◌≡◌}
use Rattle.forest.specs.Spots.{IsLive}
use Rattle.benchmarks.proofs.matching.count_elements.Given as goal

abbrev pub invariant-walk : goal.invariant-walk
invariant-walk l = (l.siblings ≡ l.arena.tree) × IsLive l.arena.tree l.at
