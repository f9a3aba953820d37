use Rattle.std.proofs.Common.{◌≡◌, ◌∙◌, ℕ, ℤ, List, ap, rules, to_z, of_z, w64}
use Rattle.std.specs.Str.{chars}
use Rattle.plain_types.specs.declared.style.CounterOp.{CounterOp}
use Rattle.box_eval.specs.Properties.{list_item}
use Rattle.box_eval.proofs.counting.implicit_op.Goals as goal

pub returns : goal.returns
unfolding chars
returns c =
    let make : List ℕ → ℤ → CounterOp = λ name value. record { name = name; value = value } in
    let step = c.implicit_step.result in
    let same : to_z w64 (of_z w64 step) ≡ step = search rules in
    record { op = ap (λ name. make name (to_z w64 (of_z w64 step))) c.in_ok-from_str.ensures.characters ∙ ap (make list_item) (same ∙ c.implicit_step.ensures.step) }
