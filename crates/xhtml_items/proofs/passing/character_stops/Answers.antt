use Rattle.xhtml_items.proofs.PassLaws.{character_ranges, character_tells, character_first, made}
use Rattle.xhtml_items.proofs.passing.character_stops.Goals as goal

pub returns-clause-tells : goal.returns-clause-tells
returns-clause-tells c = rw (← made character_ranges c.of.result c.unwrap.result c.of.ensures c.unwrap.ensures) character_tells

pub returns-clause-first : goal.returns-clause-first
returns-clause-first c = rw (← made character_ranges c.of.result c.unwrap.result c.of.ensures c.unwrap.ensures) character_first
