use Rattle.xhtml_reader.proofs.Examples.{no_character}
use Rattle.xhtml_reader.proofs.laws.no_character_fails.Goals as goal

pub returns : goal.returns
returns c = no_character
