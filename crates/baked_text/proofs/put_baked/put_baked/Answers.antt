use Rattle.std.proofs.Common.{◌∙◌, ap, sym, encode_utf8_all}
use Rattle.std.proofs.lemmas.Result.{IfOk-weaker, on_err_weaker, on_ok_weaker}
use Rattle.std.specs.Str.{chars}
use Rattle.baked_text.proofs.OutLemmas.{stops_text, went_text}
use Rattle.baked_text.proofs.WholeText.{baked_counts, baked_stops, baked_went, mark_found, mark_is, mark_stops}
use Rattle.ports.proofs.GrownLemmas.{front_same, front_whole, on_err}
use Rattle.ports.specs.Grown.{grown}
use Rattle.baked_text.proofs.put_baked.put_baked.Goals as goal

pub front_before-requires : goal.front_before-requires
front_before-requires g c = mark_found (chars c.args.text.now) (chars c.without_mark-kept.result.now) c.without_mark-kept.ensures.characters

pub returns-in_err-put_all-clause-failed : goal.returns-in_err-put_all-clause-failed
returns-in_err-put_all-clause-failed g c =
    let mark = mark_is (chars c.args.text.now) (chars c.front_before.result.now) (chars c.without_mark-kept.result.now) c.without_mark-kept.ensures.characters c.front_before.ensures.parts in
    on_err _ (mark_stops (chars c.args.text.now) (g.T.TagInsertions.document c.args.tags.now) _ _
    (front_same (ap encode_utf8_all mark) (stops_text _ _ c.front_before.result.now _ c.front_before.ensures.text c.as_bytes.ensures.value c.in_err-put_all.ensures.failed)))

pub returns-then-has_line_feeds_alone-clause-ok : goal.returns-then-has_line_feeds_alone-clause-ok
returns-then-has_line_feeds_alone-clause-ok g c =
    let mark = mark_is (chars c.args.text.now) (chars c.front_before.result.now) (chars c.without_mark-kept.result.now) c.without_mark-kept.ensures.characters c.front_before.ensures.parts in
    on_ok_weaker c.put_items.result
    (baked_went (chars c.args.text.now) (chars c.without_mark-kept.result.now) _ (g.T.TagInsertions.document c.args.tags.now) _ c.without_mark-kept.ensures.characters
    (c.has_line_feeds_alone.ensures.stays c.if-has_line_feeds_alone.true) c.requires.begun _ _ _
    (went_text _ _ c.front_before.result.now _ c.front_before.ensures.text c.as_bytes.ensures.value c.in_ok-put_all.ensures.ok ∙ ap (λ t. grown (g.O.Sink.out c.args.out.now) (encode_utf8_all t)) mark))
    c.put_items.ensures.ok

pub returns-then-has_line_feeds_alone-clause-left_out : goal.returns-then-has_line_feeds_alone-clause-left_out
returns-then-has_line_feeds_alone-clause-left_out g c =
    IfOk-weaker c.put_items.result _ _
    (λ count counts. baked_counts (chars c.args.text.now) (chars c.without_mark-kept.result.now) _ (g.T.TagInsertions.document c.args.tags.now) _ c.without_mark-kept.ensures.characters
    (c.has_line_feeds_alone.ensures.stays c.if-has_line_feeds_alone.true) c.requires.begun count c.requires.document counts)
    c.put_items.ensures.left_out

pub returns-then-has_line_feeds_alone-clause-failed : goal.returns-then-has_line_feeds_alone-clause-failed
returns-then-has_line_feeds_alone-clause-failed g c =
    let mark = mark_is (chars c.args.text.now) (chars c.front_before.result.now) (chars c.without_mark-kept.result.now) c.without_mark-kept.ensures.characters c.front_before.ensures.parts in
    on_err_weaker c.put_items.result
    (baked_stops (chars c.args.text.now) (chars c.without_mark-kept.result.now) _ (g.T.TagInsertions.document c.args.tags.now) _ c.without_mark-kept.ensures.characters
    (c.has_line_feeds_alone.ensures.stays c.if-has_line_feeds_alone.true) c.requires.begun _ _ _
    (went_text _ _ c.front_before.result.now _ c.front_before.ensures.text c.as_bytes.ensures.value c.in_ok-put_all.ensures.ok ∙ ap (λ t. grown (g.O.Sink.out c.args.out.now) (encode_utf8_all t)) mark))
    c.put_items.ensures.failed

pub returns-in_err-read-clause-failed : goal.returns-in_err-read-clause-failed
returns-in_err-read-clause-failed g c =
    let mark = mark_is (chars c.args.text.now) (chars c.front_before.result.now) (chars c.without_mark-kept.result.now) c.without_mark-kept.ensures.characters c.front_before.ensures.parts in
    on_err _ (mark_stops (chars c.args.text.now) (g.T.TagInsertions.document c.args.tags.now) _ _
    (front_whole _ _ _ (went_text _ _ c.front_before.result.now _ c.front_before.ensures.text c.as_bytes.ensures.value c.in_ok-put_all.ensures.ok ∙ ap (λ t. grown (g.O.Sink.out c.args.out.now) (encode_utf8_all t)) mark)))

pub returns-clause-ok : goal.returns-clause-ok
returns-clause-ok g c =
    let mark = mark_is (chars c.args.text.now) (chars c.front_before.result.now) (chars c.without_mark-kept.result.now) c.without_mark-kept.ensures.characters c.front_before.ensures.parts in
    on_ok_weaker c.put_items-2.result
    (baked_went (chars c.args.text.now) (chars c.without_mark-kept.result.now) _ (g.T.TagInsertions.document c.args.tags.now) _ c.without_mark-kept.ensures.characters
    (sym (c.as_str.ensures.characters ∙ c.in_ok-read.ensures)) c.requires.begun _ _ _
    (went_text _ _ c.front_before.result.now _ c.front_before.ensures.text c.as_bytes.ensures.value c.in_ok-put_all.ensures.ok ∙ ap (λ t. grown (g.O.Sink.out c.args.out.now) (encode_utf8_all t)) mark))
    c.put_items-2.ensures.ok

pub returns-clause-left_out : goal.returns-clause-left_out
returns-clause-left_out g c =
    IfOk-weaker c.put_items-2.result _ _
    (λ count counts. baked_counts (chars c.args.text.now) (chars c.without_mark-kept.result.now) _ (g.T.TagInsertions.document c.args.tags.now) _ c.without_mark-kept.ensures.characters
    (sym (c.as_str.ensures.characters ∙ c.in_ok-read.ensures)) c.requires.begun count c.requires.document counts)
    c.put_items-2.ensures.left_out

pub returns-clause-failed : goal.returns-clause-failed
returns-clause-failed g c =
    let mark = mark_is (chars c.args.text.now) (chars c.front_before.result.now) (chars c.without_mark-kept.result.now) c.without_mark-kept.ensures.characters c.front_before.ensures.parts in
    on_err_weaker c.put_items-2.result
    (baked_stops (chars c.args.text.now) (chars c.without_mark-kept.result.now) _ (g.T.TagInsertions.document c.args.tags.now) _ c.without_mark-kept.ensures.characters
    (sym (c.as_str.ensures.characters ∙ c.in_ok-read.ensures)) c.requires.begun _ _ _
    (went_text _ _ c.front_before.result.now _ c.front_before.ensures.text c.as_bytes.ensures.value c.in_ok-put_all.ensures.ok ∙ ap (λ t. grown (g.O.Sink.out c.args.out.now) (encode_utf8_all t)) mark))
    c.put_items-2.ensures.failed
