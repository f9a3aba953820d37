use Rattle.std.proofs.Common.{◌≡◌, ◌++◌, ◌≤◌, List, ℕ, length, encode_utf8_all}
use denote.Text.{Utf8}
use denote.Shadow.{shadow}
use Rattle.std.specs.List.{flat_map}
use Rattle.std.specs.Str.{chars}
use Rattle.baked_text.specs.Machinery.{shown}
use Rattle.ports.specs.Grown.{grown}
use Rattle.baked_text.proofs.put_insertion.put_characters.Given as goal

abbrev pub invariant-runs : goal.invariant-runs
invariant-runs g l = record {
  utf8 : shadow (Utf8 l.rest);
  front : List ℕ;
  parts : front ++ flat_map shown (chars l.rest) ≡ flat_map shown (chars l.text);
  went_out : g.O.Sink.out l.out ≡ grown (g.O.Sink.out l.initial.out) (encode_utf8_all front);
  later : g.O.Sink.faults l.initial.out ≤ g.O.Sink.faults l.out;
}

abbrev pub decreases-runs : goal.decreases-runs
decreases-runs g l = length (chars l.rest)
