use Rattle.xhtml_reader.proofs.Totals.{some_document}
use Rattle.xhtml_reader.proofs.laws.some_document_reading.Goals as goal

pub returns : goal.returns
returns c = some_document
