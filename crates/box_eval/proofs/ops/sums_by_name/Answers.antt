use Rattle.std.proofs.Common.{◌≡◌, ◌∙◌, ℕ, ℤ, List, Option, Some, ap, cond, pos, rules, to_z, of_z, w64}
use Rattle.std.specs.Prelude.{unwrap_or}
use Rattle.std.specs.Str.{bytes_eq}
use Rattle.plain_types.specs.Counts.{count_sum}
use Rattle.plain_types.specs.declared.style.CounterOp.{CounterOp}
use Rattle.counter_sets.specs.ByNames.{value_of}
use Rattle.box_eval.proofs.PlaceLemmas.{sum_more}
use Rattle.box_eval.proofs.ops.sums_by_name.Goals as goal

pub loop-op-preserved : goal.loop-op-preserved
loop-op-preserved c name =
    let ops = c.args.ops.now in
    let op : CounterOp = c.op-item.result in
    let sums : List ℕ → Option ℤ = λ name. value_of c.loop-op.sums name in
    let held : to_z w64 (of_z w64 c.unwrap_or-sum.result) ≡ c.unwrap_or-sum.result = search rules in
    let given : to_z w64 (of_z w64 op.value) ≡ op.value = search rules in
    let total : to_z w64 (of_z w64 c.add_counts.result) ≡ c.add_counts.result = search rules in
    let before : c.unwrap_or-sum.result ≡ unwrap_or (sums op.name) (pos 0) = c.unwrap_or-sum.ensures ∙ ap (λ (o : Option ℤ). unwrap_or o (pos 0)) (c.get.ensures.value ∙ ap sums c.as_str.ensures.characters) in
    let value : to_z w64 (of_z w64 c.add_counts.result) ≡ count_sum (unwrap_or (sums op.name) (pos 0)) op.value =
    total ∙ c.add_counts.ensures.sum
    ∙ ap (λ (sum : ℤ). count_sum sum (to_z w64 (of_z w64 op.value))) (held ∙ before)
    ∙ ap (count_sum (unwrap_or (sums op.name) (pos 0))) given in
    ap (λ (o : Option ℤ). unwrap_or o (pos 0))
    (c.in_ok-put.ensures.ok name
    ∙ ap (λ given. cond (bytes_eq name given) (Some (to_z w64 (of_z w64 c.add_counts.result))) (sums name)) c.as_str-in-loop-op.ensures.characters
    ∙ ap (λ (v : ℤ). cond (bytes_eq name op.name) (Some v) (sums name)) value)
    ∙ sum_more ops c.loop-op.op-index op c.loop-op-test.true c.op-item.is sums c.loop-op.invariant name
