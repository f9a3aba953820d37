use Rattle.xhtml_items.proofs.PassLaws.{value_ranges, value_tells, value_first, made}
use Rattle.xhtml_items.proofs.passing.value_stops.Goals as goal

pub returns-clause-tells : goal.returns-clause-tells
returns-clause-tells c = rw (← made value_ranges c.of.result c.unwrap.result c.of.ensures c.unwrap.ensures) value_tells

pub returns-clause-first : goal.returns-clause-first
returns-clause-first c = rw (← made value_ranges c.of.result c.unwrap.result c.of.ensures c.unwrap.ensures) value_first
