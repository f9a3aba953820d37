use Rattle.std.proofs.Common.{length}
use denote.Text.{Utf8}
use denote.Shadow.{shadow}
use Rattle.std.specs.Str.{chars}
use Rattle.reading.proofs.Runs.{Goes}
use Rattle.xhtml_items.specs.Machinery.Items.{attribute_at}
use Rattle.xhtml_items.proofs.attributes.attributes.Given as goal

abbrev pub invariant-pieces : goal.invariant-pieces
invariant-pieces l = record { utf8 : shadow (Utf8 l.rest); goes : Goes attribute_at (chars l.text) l.attrs (chars l.rest) }

abbrev pub decreases-pieces : goal.decreases-pieces
decreases-pieces l = length (chars l.rest)
