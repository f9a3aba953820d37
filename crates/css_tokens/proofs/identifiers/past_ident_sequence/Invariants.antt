use Rattle.std.proofs.Common.{length}
use denote.Text.{Utf8}
use denote.Shadow.{shadow}
use Rattle.std.specs.Str.{chars}
use Rattle.css_definitions.specs.Identifiers.{ident_character_at}
use Rattle.reading.proofs.Runs.{Skips}
use Rattle.css_tokens.proofs.identifiers.past_ident_sequence.Given as goal

abbrev pub invariant-pieces : goal.invariant-pieces
invariant-pieces l = record { utf8 : shadow (Utf8 l.rest); skips : Skips ident_character_at (chars l.text) (chars l.rest) }

abbrev pub decreases-pieces : goal.decreases-pieces
decreases-pieces l = length (chars l.rest)
