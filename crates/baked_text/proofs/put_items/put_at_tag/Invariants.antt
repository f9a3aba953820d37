use Rattle.std.proofs.Common.{◌≡◌, ◌≤◌, encode_utf8_all}
use Rattle.bake_definitions.specs.Tags.{next_tag}
use Rattle.ports.specs.Grown.{grown}
use Rattle.baked_text.proofs.ItemWriting.{text_up_to}
use Rattle.baked_text.proofs.put_items.put_at_tag.Given as goal

abbrev pub invariant-loop-index : goal.invariant-loop-index
invariant-loop-index g l = record {
  went_out : g.O.Sink.out l.out ≡ grown (g.O.Sink.out l.initial.out) (encode_utf8_all (text_up_to (next_tag (g.T.TagInsertions.left l.tags)) l.index));
  later : g.O.Sink.faults l.initial.out ≤ g.O.Sink.faults l.out;
}
