use Rattle.std.proofs.Common.{◌∙◌, Some, ap, cond, sym}
use Rattle.std.specs.Str.{bytes_eq}
use Rattle.plain_types.specs.declared.style.CounterOp.{CounterOp}
use Rattle.counter_sets.specs.ByNames.{value_of}
use Rattle.counter_sets.proofs.LookupLemmas.{last_place_more}
use Rattle.box_eval.specs.Properties.{is_for}
use Rattle.box_eval.proofs.PlaceLemmas.{name_swapped}
use Rattle.box_eval.proofs.ops.last_places.Goals as goal

pub loop-place-preserved : goal.loop-place-preserved
loop-place-preserved c name =
    let ops = c.args.ops.now in
    let place = c.loop-place.place in
    let op : CounterOp = c.index-ops-place.result in
    let old = value_of c.loop-place.places name in
    c.in_ok-put.ensures.ok name
    ∙ ap (λ given. cond (bytes_eq name given) (Some place) old) c.as_str.ensures.characters
    ∙ ap (λ own. cond own (Some place) old) (name_swapped name op.name)
    ∙ ap (cond (is_for name op) (Some place)) (c.loop-place.invariant name)
    ∙ sym (last_place_more (is_for name) ops place op c.loop-place-test.true c.index-ops-place.is)
