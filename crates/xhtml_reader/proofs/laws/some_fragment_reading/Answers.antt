use Rattle.xhtml_reader.proofs.Totals.{some_fragment}
use Rattle.xhtml_reader.proofs.laws.some_fragment_reading.Goals as goal

pub returns : goal.returns
returns c = some_fragment
