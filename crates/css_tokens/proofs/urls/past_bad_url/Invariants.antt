use Rattle.std.proofs.Common.{length}
use denote.Text.{Utf8}
use denote.Shadow.{shadow}
use Rattle.std.specs.Str.{chars}
use Rattle.css_tokens.specs.Urls.{bad_url_character_at}
use Rattle.reading.proofs.Runs.{Skips}
use Rattle.css_tokens.proofs.urls.past_bad_url.Given as goal

abbrev pub invariant-pieces : goal.invariant-pieces
invariant-pieces l = record { utf8 : shadow (Utf8 l.rest); skips : Skips bad_url_character_at (chars l.text) (chars l.rest) }

abbrev pub decreases-pieces : goal.decreases-pieces
decreases-pieces l = length (chars l.rest)
