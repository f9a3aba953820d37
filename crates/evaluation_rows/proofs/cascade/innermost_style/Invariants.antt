use Rattle.forest.specs.Spots.{IsLive}
use Rattle.evaluation_rows.proofs.cascade.innermost_style.Given as goal

abbrev pub invariant-down : goal.invariant-down
invariant-down g l = IsLive l.arena.tree l.at
