use Rattle.xhtml_reader.proofs.Examples.{attribute_twice}
use Rattle.xhtml_reader.proofs.laws.attribute_twice_fails.Goals as goal

pub returns : goal.returns
returns c = attribute_twice
