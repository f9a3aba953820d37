use Rattle.std.proofs.Common.{length}
use denote.Text.{Utf8}
use denote.Shadow.{shadow}
use Rattle.std.specs.Str.{chars}
use Rattle.reading.specs.Characters.{is_digit}
use Rattle.reading.specs.Reading.{span}
use Rattle.css_tokens.proofs.Digits.{Counts}
use Rattle.css_tokens.proofs.numbers.digit_run.Given as goal

abbrev pub invariant-digits : goal.invariant-digits
invariant-digits l = record { utf8 : shadow (Utf8 l.rest); counts : Counts 10 (span is_digit (chars l.text)) l.number (span is_digit (chars l.rest)) }

abbrev pub decreases-digits : goal.decreases-digits
decreases-digits l = length l.rest
