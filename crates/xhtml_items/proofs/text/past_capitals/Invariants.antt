use Rattle.std.proofs.Common.{◌≡◌, drop}
use denote.Text.{Utf8}
use denote.Shadow.{shadow}
use Rattle.std.specs.Str.{chars}
use Rattle.xhtml_items.specs.Machinery.Items.{past_capitals}
use Rattle.xhtml_items.proofs.text.past_capitals.Given as goal

abbrev pub invariant-loop-letter : goal.invariant-loop-letter
invariant-loop-letter l = record {
  utf8 : shadow (Utf8 l.rest);
  same : past_capitals l.word (chars l.text) ≡ past_capitals (drop l.letter-index l.word) (chars l.rest);
}
