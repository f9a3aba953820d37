use Rattle.std.specs.Str.{chars}
use Rattle.bake_definitions.specs.Tags.{next_tag}
use Rattle.ports.proofs.GrownLemmas.{front_whole, on_err}
use Rattle.baked_text.specs.Machinery.{text_at}
use Rattle.baked_text.proofs.OutLemmas.{stops_first, stops_text, stops_then, went_text, went_then}
use Rattle.baked_text.proofs.put_items.put_end_tag.Goals as goal

pub returns-in_err-count-clause-failed : goal.returns-in_err-count-clause-failed
returns-in_err-count-clause-failed g c = on_err _ (stops_first _ _ (text_at (next_tag (g.T.TagInsertions.left c.args.tags.now))) (chars c.args.tag.now) c.in_err-count.ensures.failed)

pub returns-in_err-put_all-clause-failed : goal.returns-in_err-put_all-clause-failed
returns-in_err-put_all-clause-failed g c =
    on_err _ (stops_then _ _ _ (text_at (next_tag (g.T.TagInsertions.left c.args.tags.now))) (chars c.args.tag.now) c.in_ok-count.ensures.ok
    (stops_text _ _ c.args.tag.now _ c.utf8.tag c.as_bytes.ensures.value c.in_err-put_all.ensures.failed))

pub returns-in_err-pass-clause-failed : goal.returns-in_err-pass-clause-failed
returns-in_err-pass-clause-failed g c =
    on_err _ (front_whole _ _ _
    (went_then _ _ _ (text_at (next_tag (g.T.TagInsertions.left c.args.tags.now))) (chars c.args.tag.now) c.in_ok-count.ensures.ok (went_text _ _ c.args.tag.now _ c.utf8.tag c.as_bytes.ensures.value c.in_ok-put_all.ensures.ok)))

pub returns-clause-ok : goal.returns-clause-ok
returns-clause-ok g c =
    went_then _ _ _ (text_at (next_tag (g.T.TagInsertions.left c.args.tags.now))) (chars c.args.tag.now) c.in_ok-count.ensures.ok (went_text _ _ c.args.tag.now _ c.utf8.tag c.as_bytes.ensures.value c.in_ok-put_all.ensures.ok)
