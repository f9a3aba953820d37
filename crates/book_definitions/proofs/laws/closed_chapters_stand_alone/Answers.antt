use Rattle.book_definitions.proofs.ClosedChapters.{dump_alone, entries_alone, lines_alone, one_chapter}
use Rattle.book_definitions.proofs.laws.closed_chapters_stand_alone.Goals as goal

pub returns : goal.returns
returns c = record { entries = entries_alone; lines = lines_alone; dump = dump_alone; one = one_chapter }
