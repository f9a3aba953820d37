use Rattle.same_texts.proofs.SameLines.{document_lines_same, dump_same}
use Rattle.same_texts.proofs.laws.same_documents_have_same_texts.Goals as goal

pub returns : goal.returns
returns c = record { lines = document_lines_same; dump = dump_same }
