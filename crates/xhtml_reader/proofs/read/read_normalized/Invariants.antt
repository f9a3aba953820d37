use Rattle.std.proofs.Common.{length}
use denote.Text.{Utf8}
use denote.Shadow.{shadow}
use Rattle.std.specs.Str.{chars}
use Rattle.xhtml_reader.specs.Machinery.Keeping.{kept}
use Rattle.xhtml_reader.proofs.Progress.{Progress}
use Rattle.xhtml_reader.proofs.read.read_normalized.Given as goal

abbrev pub invariant-items : goal.invariant-items
invariant-items l = record { utf8 : shadow (Utf8 l.rest); progress : Progress l.fn.kind (chars l.text) (chars l.rest) (kept l.open) }

abbrev pub decreases-items : goal.decreases-items
decreases-items l = length (chars l.rest)
