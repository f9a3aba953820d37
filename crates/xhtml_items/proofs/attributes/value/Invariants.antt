use Rattle.std.proofs.Common.{length}
use denote.Text.{Utf8}
use denote.Shadow.{shadow}
use Rattle.std.specs.Str.{chars}
use Rattle.reading.proofs.Runs.{Goes}
use Rattle.xhtml_items.specs.Machinery.Items.{value_part_at}
use Rattle.xhtml_items.proofs.attributes.value.Given as goal

abbrev pub invariant-parts : goal.invariant-parts
invariant-parts l = record { utf8 : shadow (Utf8 l.rest); goes : Goes (value_part_at l.quote) (chars l.text) l.value (chars l.rest) }

abbrev pub decreases-parts : goal.decreases-parts
decreases-parts l = length (chars l.rest)
