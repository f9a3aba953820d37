use Rattle.forest.specs.Spots.{IsLive}
use Rattle.benchmarks.proofs.element_styles.is_within.Given as goal

abbrev pub invariant-climb : goal.invariant-climb
invariant-climb l = IsLive l.arena.tree l.at
