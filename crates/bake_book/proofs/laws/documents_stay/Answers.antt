use Rattle.bake_book.proofs.LineLaws.{document_stays}
use Rattle.bake_book.proofs.laws.documents_stay.Goals as goal

pub returns : goal.returns
returns c = record { stay = document_stays }
