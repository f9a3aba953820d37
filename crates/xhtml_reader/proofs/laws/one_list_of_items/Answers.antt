use Rattle.xhtml_reader.proofs.Places.{only_items}
use Rattle.xhtml_reader.proofs.laws.one_list_of_items.Goals as goal

pub returns : goal.returns
returns c = λ characters items other first second. only_items items other characters first second
