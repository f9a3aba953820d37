use Rattle.std.proofs.Common.{length}
use denote.Text.{Utf8}
use denote.Shadow.{shadow}
use Rattle.std.specs.Str.{chars}
use Rattle.css_tokens.specs.Urls.{url_character_at}
use Rattle.reading.proofs.Runs.{Goes}
use Rattle.css_tokens.proofs.urls.url_value.Given as goal

abbrev pub invariant-pieces : goal.invariant-pieces
invariant-pieces l = record { utf8 : shadow (Utf8 l.rest); goes : Goes url_character_at (chars l.text) l.value (chars l.rest) }

abbrev pub decreases-pieces : goal.decreases-pieces
decreases-pieces l = length (chars l.rest)
