use Rattle.std.proofs.Common.{◌≡◌, length}
use Rattle.css_tokens.specs.TokenReading.{skip_whitespace}
use Rattle.css_tokens.proofs.token_reading.skip_whitespace.Given as goal

abbrev pub invariant-blanks : goal.invariant-blanks
invariant-blanks l = skip_whitespace l.tokens ≡ skip_whitespace l.rest

abbrev pub decreases-blanks : goal.decreases-blanks
decreases-blanks l = length l.rest
