use Rattle.std.proofs.Common.{◌≡◌, ℕ, List, take}
use Rattle.counter_sets.specs.ByNames.{value_of}
use Rattle.counter_sets.specs.Sets.{last_place}
use Rattle.std.specs.Str.{bytes_eq}
use Rattle.plain_types.specs.declared.style.ResetOp.{ResetOp}
use Rattle.box_eval.proofs.ops.last_resets.Given as goal

abbrev pub invariant-loop-place : goal.invariant-loop-place
invariant-loop-place l = (name : List ℕ) → value_of l.places name ≡ last_place (λ (op : ResetOp). bytes_eq op.name name) (take l.place l.ops)
