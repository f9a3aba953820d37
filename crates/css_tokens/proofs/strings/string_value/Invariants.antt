use Rattle.std.proofs.Common.{length}
use denote.Text.{Utf8}
use denote.Shadow.{shadow}
use Rattle.std.specs.Str.{chars}
use Rattle.css_tokens.specs.Strings.{string_piece_at}
use Rattle.css_tokens.proofs.Keeping.{Keeps}
use Rattle.css_tokens.proofs.strings.string_value.Given as goal

abbrev pub invariant-pieces : goal.invariant-pieces
invariant-pieces l = record { utf8 : shadow (Utf8 l.rest); keeps : Keeps (string_piece_at l.quote) (chars l.text) l.value (chars l.rest) }

abbrev pub decreases-pieces : goal.decreases-pieces
decreases-pieces l = length (chars l.rest)
