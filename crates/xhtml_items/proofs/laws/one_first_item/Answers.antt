use Rattle.xhtml_items.proofs.ItemLaws.{one_first}
use Rattle.xhtml_items.proofs.laws.one_first_item.Goals as goal

pub returns : goal.returns
returns c = one_first
