use denote.Text.{Utf8}
use denote.Shadow.{shadow}
use Rattle.std.specs.Str.{chars}
use Rattle.reading.specs.Characters.{is_hexadecimal_digit}
use Rattle.reading.specs.Reading.{span_of}
use Rattle.css_tokens.proofs.Digits.{Counts}
use Rattle.css_tokens.proofs.identifiers.hex_digits.Given as goal

abbrev pub invariant-digits : goal.invariant-digits
invariant-digits l = record { utf8 : shadow (Utf8 l.rest); counts : Counts 16 (span_of 6 is_hexadecimal_digit (chars l.text)) l.number (span_of l.most is_hexadecimal_digit (chars l.rest)) }

abbrev pub decreases-digits : goal.decreases-digits
decreases-digits l = l.most
