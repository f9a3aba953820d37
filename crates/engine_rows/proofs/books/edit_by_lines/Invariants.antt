use Rattle.std.proofs.Common.{◌≡◌, true}
use Rattle.engine_rows.proofs.books.edit_by_lines.Given as goal

abbrev pub invariant-lines : goal.invariant-lines
invariant-lines g l = l.book.settled ≡ true
