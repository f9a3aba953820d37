use Rattle.forest.specs.Spots.{IsLive}
use Rattle.tree_rows.proofs.shape_rows.is_walked.Given as goal

abbrev pub invariant-walk : goal.invariant-walk
invariant-walk l = IsLive l.arena.tree l.at
