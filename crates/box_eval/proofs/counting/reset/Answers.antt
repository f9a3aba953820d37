use Rattle.std.proofs.Common.{◌≡◌, ◌∙◌, List, ℕ, ℤ, sym, ap, subst, rules, to_z, of_z, w64}
use Rattle.plain_types.specs.declared.counter.Counter.{Counter}
use Rattle.counter_sets.specs.Sets.{AreDistinct, instantiated, is_missing_in}
use Rattle.box_eval.proofs.counting.reset.Goals as goal

pub instantiate-requires : goal.instantiate-requires
instantiate-requires c =
    let op = c.args.op.now in
    let value = c.first_value.result in
    let new : List ℕ → ℤ → Counter = λ name value. record { name = name; creator = c.args.place.now.creator; reversed = op.reversed; value = value } in
    let same : to_z w64 (of_z w64 value) ≡ value = search rules in
    let counter = ap (λ name. new name (to_z w64 (of_z w64 value))) (c.in_ok-from_str.ensures.characters ∙ c.as_str.ensures.characters) ∙ ap (new op.name) (same ∙ c.first_value.ensures.value) in
    record { distinct = subst (λ counter. AreDistinct (instantiated (is_missing_in c.args.place.now.parent) c.args.set counter)) (sym counter) c.requires.distinct }
