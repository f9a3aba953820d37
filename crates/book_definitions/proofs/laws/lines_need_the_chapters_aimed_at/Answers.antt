use Rattle.book_definitions.proofs.TargetLaws.{aims_kept, lines_kept, lines_need_chapters}
use Rattle.book_definitions.proofs.laws.lines_need_the_chapters_aimed_at.Goals as goal

pub returns : goal.returns
returns c = record { lines = lines_need_chapters; aims_kept = aims_kept; lines_kept = lines_kept }
