use Rattle.forest.specs.Spots.{IsLive}
use Rattle.engine_rows.proofs.books.state_of.Given as goal

abbrev pub invariant-walk : goal.invariant-walk
invariant-walk g l = IsLive l.book.tree l.at
