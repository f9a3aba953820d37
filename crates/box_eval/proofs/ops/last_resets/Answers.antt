use Rattle.std.proofs.Common.{◌∙◌, Bool, Some, ap, cond, sym}
use Rattle.std.specs.Str.{bytes_eq}
use Rattle.plain_types.specs.declared.style.ResetOp.{ResetOp}
use Rattle.counter_sets.specs.ByNames.{value_of}
use Rattle.counter_sets.proofs.LookupLemmas.{last_place_more}
use Rattle.box_eval.proofs.PlaceLemmas.{name_swapped}
use Rattle.box_eval.proofs.ops.last_resets.Goals as goal

pub loop-place-preserved : goal.loop-place-preserved
loop-place-preserved c name =
    let ops = c.args.ops.now in
    let place = c.loop-place.place in
    let op : ResetOp = c.index-ops-place.result in
    let old = value_of c.loop-place.places name in
    let own : ResetOp → Bool = λ op. bytes_eq op.name name in
    c.in_ok-put.ensures.ok name
    ∙ ap (λ given. cond (bytes_eq name given) (Some place) old) c.as_str.ensures.characters
    ∙ ap (λ own. cond own (Some place) old) (name_swapped name op.name)
    ∙ ap (cond (own op) (Some place)) (c.loop-place.invariant name)
    ∙ sym (last_place_more own ops place op c.loop-place-test.true c.index-ops-place.is)
