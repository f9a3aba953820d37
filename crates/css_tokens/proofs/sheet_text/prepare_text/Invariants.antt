use Rattle.std.proofs.Common.{◌≡◌, ◌++◌, length}
use denote.Text.{Utf8}
use denote.Shadow.{shadow}
use Rattle.std.specs.Str.{chars}
use Rattle.css_definitions.specs.SheetText.{filtered}
use Rattle.reading.specs.Reading.{without_mark}
use Rattle.css_tokens.proofs.sheet_text.prepare_text.Given as goal

abbrev pub invariant-characters : goal.invariant-characters
invariant-characters l = record { utf8 : shadow (Utf8 l.rest); all_is : filtered (without_mark (chars l.text)) ≡ l.out ++ filtered (chars l.rest) }

abbrev pub decreases-characters : goal.decreases-characters
decreases-characters l = length (chars l.rest)
