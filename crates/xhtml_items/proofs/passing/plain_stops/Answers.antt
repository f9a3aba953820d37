use Rattle.xhtml_items.proofs.PassLaws.{plain_ranges, plain_tells, plain_first, made}
use Rattle.xhtml_items.proofs.passing.plain_stops.Goals as goal

pub returns-clause-tells : goal.returns-clause-tells
returns-clause-tells c = rw (← made plain_ranges c.of.result c.unwrap.result c.of.ensures c.unwrap.ensures) plain_tells

pub returns-clause-first : goal.returns-clause-first
returns-clause-first c = rw (← made plain_ranges c.of.result c.unwrap.result c.of.ensures c.unwrap.ensures) plain_first
