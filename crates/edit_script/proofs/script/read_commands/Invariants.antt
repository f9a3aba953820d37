use Rattle.std.proofs.Common.{length}
use denote.Text.{Utf8}
use denote.Shadow.{shadow}
use Rattle.std.specs.Str.{chars}
use Rattle.reading.specs.Reading.{without_mark}
use Rattle.edit_script.specs.Machinery.Reading.{HasLines}
use Rattle.edit_script.proofs.script.read_commands.Given as goal

abbrev pub invariant-lines : goal.invariant-lines
invariant-lines l = record { utf8 : shadow (Utf8 l.rest); read : HasLines l.kind (without_mark (chars l.text)) l.number l.commands (chars l.rest) }

abbrev pub decreases-lines : goal.decreases-lines
decreases-lines l = length (chars l.rest)
