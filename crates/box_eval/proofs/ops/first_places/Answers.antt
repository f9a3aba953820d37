use Rattle.std.proofs.Common.{◌∙◌, None, Some, ap, cond, sym}
use Rattle.std.specs.Option.{option_or}
use Rattle.std.specs.Str.{bytes_eq}
use Rattle.plain_types.specs.declared.style.CounterOp.{CounterOp}
use Rattle.counter_sets.specs.ByNames.{value_of}
use Rattle.box_eval.specs.Properties.{is_for}
use Rattle.box_eval.proofs.PlaceLemmas.{first_more, name_swapped}
use Rattle.box_eval.proofs.ops.first_places.Goals as goal

pub loop-place-preserved : goal.loop-place-preserved
loop-place-preserved c name =
    let ops = c.args.ops.now in
    let place = c.loop-place.place in
    let op : CounterOp = c.index-ops-place.result in
    let old = value_of c.loop-place.places name in
    c.in_ok-put_first.ensures.ok name
    ∙ ap (λ given. option_or old (cond (bytes_eq name given) (Some place) None)) c.as_str.ensures.characters
    ∙ ap (λ own. option_or old (cond own (Some place) None)) (name_swapped name op.name)
    ∙ ap (λ o. option_or o (cond (is_for name op) (Some place) None)) (c.loop-place.invariant name)
    ∙ sym (first_more (is_for name) ops place op c.loop-place-test.true c.index-ops-place.is)
