use Rattle.std.proofs.Common.{◌∙◌, Some, ap, cond, sym}
use Rattle.std.specs.Str.{bytes_eq}
use Rattle.counter_sets.specs.ByNames.{value_of}
use Rattle.counter_sets.specs.Sets.{is_named}
use Rattle.counter_sets.proofs.LookupLemmas.{last_place_more}
use Rattle.counter_sets.proofs.counters.last_places.Goals as goal

pub loop-place-preserved : goal.loop-place-preserved
loop-place-preserved c name =
    let counters = c.args.counters.now in
    let place = c.loop-place.place in
    let counter = c.index-counters-place.result in
    c.in_ok-put.ensures.ok name
    ∙ ap (λ given. cond (bytes_eq name given) (Some place) (value_of c.loop-place.places name)) c.as_str.ensures.characters
    ∙ ap (cond (is_named name counter) (Some place)) (c.loop-place.invariant name)
    ∙ sym (last_place_more (is_named name) counters place counter c.loop-place-test.true c.index-counters-place.is)
