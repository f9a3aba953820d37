use Rattle.std.specs.Str.{chars}
use Rattle.xhtml_items.proofs.ItemLaws.{item_found}
use Rattle.xhtml_items.proofs.item.first_item.Goals as goal

pub returns-clause-item : goal.returns-clause-item
returns-clause-item c = item_found (chars c.args.text.now) c.item.result c.item.ensures.reads
