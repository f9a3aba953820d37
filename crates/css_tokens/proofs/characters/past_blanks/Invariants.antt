use Rattle.std.proofs.Common.{◌≡◌, length}
use denote.Text.{Utf8}
use denote.Shadow.{shadow}
use Rattle.std.specs.Str.{chars}
use Rattle.css_tokens.specs.Urls.{past_blanks}
use Rattle.css_tokens.proofs.characters.past_blanks.Given as goal

abbrev pub invariant-blanks : goal.invariant-blanks
invariant-blanks l = record { utf8 : shadow (Utf8 l.rest); same : past_blanks (chars l.text) ≡ past_blanks (chars l.rest) }

abbrev pub decreases-blanks : goal.decreases-blanks
decreases-blanks l = length l.rest
