use Rattle.std.proofs.Common.{◌∙◌, sym}
use Rattle.xml_definitions.specs.Spelling.{entities}
use Rattle.xhtml_items.proofs.Texts.{entity_by_bytes}
use Rattle.xhtml_items.proofs.references.entity.Goals as goal

pub returns : goal.returns
unfolding entities
returns c = c.look_up.ensures ∙ sym (entity_by_bytes c.args.name.now c.utf8.name)
