use Rattle.std.proofs.Common.{◌+◌, ◌≤◌, length}
use denote.Text.{Utf8}
use denote.Shadow.{shadow}
use Rattle.std.specs.Str.{chars}
use Rattle.baked_text.proofs.LoopLaws.{ReachedIn}
use Rattle.baked_text.proofs.put_items.put_items.Given as goal

abbrev pub invariant-items : goal.invariant-items
invariant-items g l = record {
  kept_utf8 : shadow (Utf8 l.kept);
  rest_utf8 : shadow (Utf8 l.rest);
  reached :
      ReachedIn (chars l.kept-2) (chars l.read) (g.T.TagInsertions.left l.initial.tags) (g.T.TagInsertions.left l.tags) (g.O.Sink.out l.initial.out) (g.O.Sink.out l.out) (chars l.kept) (chars l.rest) l.left_out;
  later : g.O.Sink.faults l.initial.out ≤ g.O.Sink.faults l.out;
  spent : l.steps + length (g.T.TagInsertions.left l.tags) ≤ l.initial.steps + length (g.T.TagInsertions.left l.initial.tags);
}

abbrev pub decreases-items : goal.decreases-items
decreases-items g l = length (chars l.rest)
