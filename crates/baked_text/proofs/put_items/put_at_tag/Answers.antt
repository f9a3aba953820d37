use Rattle.std.proofs.Common.{ap, sym, ◌∙◌, arith}
use Rattle.std.specs.Str.{chars}
use Rattle.bake_definitions.specs.Insertions.{takes_span}
use Rattle.bake_definitions.specs.Tags.{next_tag}
use Rattle.ports.proofs.GrownLemmas.{on_err}
use Rattle.baked_text.specs.Walks.{insertion_view}
use Rattle.baked_text.proofs.ItemWriting.{text_goes, text_stops}
use Rattle.baked_text.proofs.put_items.put_at_tag.Goals as goal

pub returns-in_err-put_insertion-clause-failed : goal.returns-in_err-put_insertion-clause-failed
returns-in_err-put_insertion-clause-failed g c =
    let tag = next_tag (g.T.TagInsertions.left c.args.tags.now) in
    let takes = sym (c.takes_span.ensures ∙ ap takes_span c.name.ensures.name) ∙ c.if-not-takes_span.false in
    on_err _ (text_stops tag c.loop-index.index (insertion_view c.insertion-kind.result) (chars c.name-in-loop-index.result.now) takes
    (omega (arith, c.count-count.ensures, c.loop-index-test.true)) c.insertion-kind.ensures.insertion c.name-in-loop-index.ensures.name
    _ _ _ c.loop-index.invariant.went_out c.in_err-put_insertion.ensures.failed)

pub loop-index-preserved : goal.loop-index-preserved
loop-index-preserved g c =
    let tag = next_tag (g.T.TagInsertions.left c.args.tags.now) in
    record {
      went_out =
          text_goes tag c.loop-index.index (insertion_view c.insertion-kind.result) (chars c.name-in-loop-index.result.now)
          (omega (arith, c.count-count.ensures, c.loop-index-test.true)) c.insertion-kind.ensures.insertion c.name-in-loop-index.ensures.name
          _ _ _ c.loop-index.invariant.went_out c.in_ok-put_insertion.ensures.ok;
      later = omega (arith, c.loop-index.invariant.later, c.in_ok-put_insertion.ensures.cause.later);
    }
