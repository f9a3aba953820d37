use Rattle.std.proofs.Common.{◌≡◌, length}
use denote.Text.{Utf8}
use denote.Shadow.{shadow}
use Rattle.std.specs.Str.{chars}
use Rattle.css_tokens.specs.Tokens.{past_comment_end}
use Rattle.css_tokens.proofs.lexer.past_comment_end.Given as goal

abbrev pub invariant-characters : goal.invariant-characters
invariant-characters l = record { utf8 : shadow (Utf8 l.rest); same : past_comment_end (chars l.text) ≡ past_comment_end (chars l.rest) }

abbrev pub decreases-characters : goal.decreases-characters
decreases-characters l = length (chars l.rest)
