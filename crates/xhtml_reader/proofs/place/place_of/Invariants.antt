use Rattle.std.proofs.Common.{◌≡◌, drop}
use denote.Text.{Utf8}
use denote.Shadow.{shadow}
use Rattle.std.specs.Str.{chars}
use Rattle.xhtml_reader.proofs.Lines.{Counts}
use Rattle.xhtml_reader.proofs.place.place_of.Given as goal

abbrev pub invariant-loop : goal.invariant-loop
invariant-loop l = record {
  utf8 : shadow (Utf8 l.left);
  left_is : drop l.counter (chars l.text) ≡ chars l.left;
  counts : Counts (chars l.text) l.counter l.line l.column;
}
