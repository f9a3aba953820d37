use Rattle.xhtml_reader.proofs.Totals.{one_document}
use Rattle.xhtml_reader.proofs.laws.one_document_reading.Goals as goal

pub returns : goal.returns
returns c = one_document
