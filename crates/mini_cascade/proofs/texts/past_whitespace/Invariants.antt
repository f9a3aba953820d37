use Rattle.std.proofs.Common.{◌≡◌, length}
use denote.Text.{Utf8}
use denote.Shadow.{shadow}
use Rattle.std.specs.Str.{chars}
use Rattle.mini_cascade.specs.Hints.{past_whitespace}
use Rattle.mini_cascade.proofs.texts.past_whitespace.Given as goal

abbrev pub invariant-blanks : goal.invariant-blanks
invariant-blanks l = record { utf8 : shadow (Utf8 l.rest); same : past_whitespace (chars l.text) ≡ past_whitespace (chars l.rest) }

abbrev pub decreases-blanks : goal.decreases-blanks
decreases-blanks l = length l.rest
