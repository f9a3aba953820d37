use Rattle.xhtml_reader.proofs.Totals.{one_fragment}
use Rattle.xhtml_reader.proofs.laws.one_fragment_reading.Goals as goal

pub returns : goal.returns
returns c = one_fragment
