use Rattle.xhtml_reader.proofs.Examples.{other_end_tag}
use Rattle.xhtml_reader.proofs.laws.other_end_tag_fails.Goals as goal

pub returns : goal.returns
returns c = other_end_tag
