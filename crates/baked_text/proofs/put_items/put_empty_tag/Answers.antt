use Rattle.std.proofs.Common.{◌||◌, false, ◌++◌, ap, ◌∙◌, drop, encode_utf8_all}
use Rattle.std.specs.Str.{chars}
use Rattle.bake_definitions.specs.Tags.{next_tag}
use Rattle.ports.proofs.GrownLemmas.{front_same, on_err}
use Rattle.ports.specs.Grown.{grown}
use Rattle.baked_text.specs.Machinery.{closing, has_some, opening, text_at}
use Rattle.baked_text.proofs.ItemWriting.{Stops, put_same}
use Rattle.baked_text.proofs.OutLemmas.{stops_first, stops_then, went_then}
use Rattle.baked_text.proofs.put_items.put_empty_tag.Goals as goal

pub returns-in_err-put_all-clause-failed : goal.returns-in_err-put_all-clause-failed
returns-in_err-put_all-clause-failed g c =
    on_err {P = Stops (chars c.args.name.now) (chars c.args.tag.now) (g.T.TagInsertions.left c.args.tags.now) _ _} _ (λ front is. stops_first _ _ front _ (front_same (c.before_slash-front.ensures front is) c.in_err-put_all.ensures.failed))

pub returns-in_err-has_first-clause-failed : goal.returns-in_err-has_first-clause-failed
returns-in_err-has_first-clause-failed g c =
    on_err {P = Stops (chars c.args.name.now) (chars c.args.tag.now) (g.T.TagInsertions.left c.args.tags.now) _ _} _ (λ front is.
    let so_far = c.in_ok-put_all.ensures.ok ∙ ap (λ t. grown (g.O.Sink.out c.args.out.now) t) (c.before_slash-front.ensures front is) in
    stops_then _ _ _ front _ so_far (stops_first _ _ _ _ c.in_err-has_first.ensures.failed))

pub returns-in_err-is_ended-clause-failed : goal.returns-in_err-is_ended-clause-failed
returns-in_err-is_ended-clause-failed g c =
    on_err {P = Stops (chars c.args.name.now) (chars c.args.tag.now) (g.T.TagInsertions.left c.args.tags.now) _ _} _ (λ front is.
    let tags = g.T.TagInsertions.left c.args.tags.now in
    let so_far = c.in_ok-put_all.ensures.ok ∙ ap (λ t. grown (g.O.Sink.out c.args.out.now) t) (c.before_slash-front.ensures front is) in
    let second = put_same _ (has_some (next_tag tags)) _ (drop 1 tags) c.in_ok-has_first.ensures.ended c.in_ok-has_first.ensures.left in
    stops_then _ _ _ front _ so_far
    (stops_then _ _ _ (opening false (next_tag tags) ++ text_at (next_tag tags)) _ c.in_ok-has_first.ensures.ok
    (stops_first _ _ (opening (has_some (next_tag tags)) (next_tag (drop 1 tags)) ++ text_at (next_tag (drop 1 tags))) _ (front_same (ap encode_utf8_all second) c.in_err-is_ended.ensures.failed))))

pub returns-in_err-put_closing-clause-failed : goal.returns-in_err-put_closing-clause-failed
returns-in_err-put_closing-clause-failed g c =
    on_err {P = Stops (chars c.args.name.now) (chars c.args.tag.now) (g.T.TagInsertions.left c.args.tags.now) _ _} _ (λ front is.
    let tags = g.T.TagInsertions.left c.args.tags.now in
    let so_far = c.in_ok-put_all.ensures.ok ∙ ap (λ t. grown (g.O.Sink.out c.args.out.now) t) (c.before_slash-front.ensures front is) in
    let second = put_same _ (has_some (next_tag tags)) _ (drop 1 tags) c.in_ok-has_first.ensures.ended c.in_ok-has_first.ensures.left in
    let ended = c.in_ok-is_ended.ensures.ended ∙ ap (λ b. b || has_some (next_tag (g.T.TagInsertions.left c.put_behind.new.tags))) c.in_ok-has_first.ensures.ended ∙ ap (λ t. has_some (next_tag tags) || has_some (next_tag t)) c.in_ok-has_first.ensures.left in
    stops_then _ _ _ front _ so_far
    (stops_then _ _ _ (opening false (next_tag tags) ++ text_at (next_tag tags)) _ c.in_ok-has_first.ensures.ok
    (stops_then _ _ _ (opening (has_some (next_tag tags)) (next_tag (drop 1 tags)) ++ text_at (next_tag (drop 1 tags))) _
    (c.in_ok-is_ended.ensures.ok ∙ ap (λ t. grown (g.O.Sink.out c.put_behind.new.out) (encode_utf8_all t)) second)
    (front_same (ap (λ b. encode_utf8_all (closing b (chars c.args.name.now))) ended) c.in_err-put_closing.ensures.failed))))

pub returns-clause-ok : goal.returns-clause-ok
returns-clause-ok g c =
    λ front is.
    let tags = g.T.TagInsertions.left c.args.tags.now in
    let so_far = c.in_ok-put_all.ensures.ok ∙ ap (λ t. grown (g.O.Sink.out c.args.out.now) t) (c.before_slash-front.ensures front is) in
    let second = put_same _ (has_some (next_tag tags)) _ (drop 1 tags) c.in_ok-has_first.ensures.ended c.in_ok-has_first.ensures.left in
    let ended = c.in_ok-is_ended.ensures.ended ∙ ap (λ b. b || has_some (next_tag (g.T.TagInsertions.left c.put_behind.new.tags))) c.in_ok-has_first.ensures.ended ∙ ap (λ t. has_some (next_tag tags) || has_some (next_tag t)) c.in_ok-has_first.ensures.left in
    went_then _ _ _ front _ so_far
    (went_then _ _ _ (opening false (next_tag tags) ++ text_at (next_tag tags)) _ c.in_ok-has_first.ensures.ok
    (went_then _ _ _ (opening (has_some (next_tag tags)) (next_tag (drop 1 tags)) ++ text_at (next_tag (drop 1 tags))) _
    (c.in_ok-is_ended.ensures.ok ∙ ap (λ t. grown (g.O.Sink.out c.put_behind.new.out) (encode_utf8_all t)) second)
    (c.in_ok-put_closing.ensures.ok ∙ ap (λ b. grown (g.O.Sink.out c.put_behind-2.new.out) (encode_utf8_all (closing b (chars c.args.name.now)))) ended)))
