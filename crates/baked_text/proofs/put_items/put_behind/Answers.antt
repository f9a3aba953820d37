use Rattle.std.proofs.Common.{ap, ◌∙◌}
use Rattle.bake_definitions.specs.Tags.{next_tag}
use Rattle.ports.proofs.GrownLemmas.{front_same, front_whole, on_err}
use Rattle.ports.specs.Grown.{grown}
use Rattle.baked_text.specs.Machinery.{opening, text_at}
use Rattle.baked_text.proofs.ItemWriting.{opening_bytes}
use Rattle.baked_text.proofs.OutLemmas.{stops_first, stops_then, went_then}
use Rattle.baked_text.proofs.put_items.put_behind.Goals as goal

pub returns-in_err-put_all-clause-failed : goal.returns-in_err-put_all-clause-failed
returns-in_err-put_all-clause-failed g c =
    let tag = next_tag (g.T.TagInsertions.left c.args.tags.now) in
    let is = c.start_end.ensures ∙ opening_bytes c.args.is_ended tag in
    on_err _ (stops_first _ _ (opening c.args.is_ended tag) (text_at tag) (front_same is c.in_err-put_all.ensures.failed))

pub returns-in_err-count-clause-failed : goal.returns-in_err-count-clause-failed
returns-in_err-count-clause-failed g c =
    let tag = next_tag (g.T.TagInsertions.left c.args.tags.now) in
    let is = c.start_end.ensures ∙ opening_bytes c.args.is_ended tag in
    let so_far = c.in_ok-put_all.ensures.ok ∙ ap (λ t. grown (g.O.Sink.out c.args.out.now) t) is in
    on_err _ (stops_then _ _ _ (opening c.args.is_ended tag) (text_at tag) so_far c.in_err-count.ensures.failed)

pub returns-in_err-pass-clause-failed : goal.returns-in_err-pass-clause-failed
returns-in_err-pass-clause-failed g c =
    let tag = next_tag (g.T.TagInsertions.left c.args.tags.now) in
    let is = c.start_end.ensures ∙ opening_bytes c.args.is_ended tag in
    let so_far = c.in_ok-put_all.ensures.ok ∙ ap (λ t. grown (g.O.Sink.out c.args.out.now) t) is in
    on_err _ (front_whole _ _ _ (went_then _ _ _ (opening c.args.is_ended tag) (text_at tag) so_far c.in_ok-count.ensures.ok))

pub returns-clause-ok : goal.returns-clause-ok
returns-clause-ok g c =
    let tag = next_tag (g.T.TagInsertions.left c.args.tags.now) in
    let is = c.start_end.ensures ∙ opening_bytes c.args.is_ended tag in
    let so_far = c.in_ok-put_all.ensures.ok ∙ ap (λ t. grown (g.O.Sink.out c.args.out.now) t) is in
    went_then _ _ _ (opening c.args.is_ended tag) (text_at tag) so_far c.in_ok-count.ensures.ok
