use Rattle.book_definitions.proofs.RekeyedVolumes.{dump_of_trees, lines_of_trees}
use Rattle.book_definitions.proofs.laws.keys_do_not_matter.Goals as goal

pub returns : goal.returns
returns c = record { lines = lines_of_trees; dump = dump_of_trees }
