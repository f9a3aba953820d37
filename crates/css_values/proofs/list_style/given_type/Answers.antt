use Rattle.css_values.proofs.PartLists.{type_here, no_type_here}
use Rattle.css_values.proofs.list_style.given_type.Goals as goal

pub returns-in-Type : goal.returns-in-Type
returns-in-Type c = type_here c.args.parts.now c.loop-part.part-index c.part-item.result c.in-Type.list_type c.loop-part-test.true c.loop-part.invariant c.part-item.is c.in-Type.is

pub loop-part-preserved : goal.loop-part-preserved
loop-part-preserved c = no_type_here c.args.parts.now c.loop-part.part-index c.part-item.result c.loop-part-test.true c.loop-part.invariant c.part-item.is c.in_default.not-Type
