use Rattle.bake_book.proofs.CountLaws.{none_is_lost}
use Rattle.bake_book.proofs.LineLaws.{document_told}
use Rattle.bake_book.proofs.laws.insertions_are_lines.Goals as goal

pub returns : goal.returns
returns c = record { lines = document_told c.elements_have_entries.ensures.keys; none_lost = none_is_lost c.elements_have_entries.ensures.keys }
