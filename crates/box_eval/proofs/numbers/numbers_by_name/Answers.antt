use Rattle.std.proofs.Common.{◌≡◌, ◌∙◌, ℤ, None, Some, ap, cond, rules, sym, to_z, of_z, w64}
use Rattle.std.specs.Option.{option_or}
use Rattle.std.specs.Str.{bytes_eq}
use Rattle.plain_types.specs.declared.style.CounterOp.{CounterOp}
use Rattle.counter_sets.specs.ByNames.{value_of}
use Rattle.box_eval.specs.Properties.{is_for}
use Rattle.box_eval.proofs.PlaceLemmas.{name_swapped, value_more}
use Rattle.box_eval.proofs.numbers.numbers_by_name.Goals as goal

pub loop-op-preserved : goal.loop-op-preserved
loop-op-preserved c name =
    let ops = c.args.ops.now in
    let op : CounterOp = c.op-item.result in
    let old = value_of c.loop-op.numbers name in
    let same : to_z w64 (of_z w64 op.value) ≡ op.value = search rules in
    c.in_ok-put_first.ensures.ok name
    ∙ ap (λ given. option_or old (cond (bytes_eq name given) (Some (to_z w64 (of_z w64 op.value))) None)) c.as_str.ensures.characters
    ∙ ap (λ (value : ℤ). option_or old (cond (bytes_eq name op.name) (Some value) None)) same
    ∙ ap (λ own. option_or old (cond own (Some op.value) None)) (name_swapped name op.name)
    ∙ ap (λ o. option_or o (cond (is_for name op) (Some op.value) None)) (c.loop-op.invariant name)
    ∙ sym (value_more (λ (op : CounterOp). op.value) (is_for name) ops c.loop-op.op-index op c.loop-op-test.true c.op-item.is)
