use Rattle.forest.specs.Spots.{IsLive}
use Rattle.benchmarks.proofs.arena.last_node.Given as goal

abbrev pub invariant-walk : goal.invariant-walk
invariant-walk l = IsLive l.arena.tree l.last
