use Rattle.std.proofs.Common.{◌≡◌, ◌∙◌, ◌∷◌, ℤ, ap, rules, sym, to_z, of_z, w64}
use Rattle.counter_sets.specs.Sets.{is_missing_in, valued_in, with_value}
use Rattle.counter_sets.proofs.InheritLemmas.{if_none, stuck}
use Rattle.counter_sets.proofs.inheriting.past_added.Goals as goal

pub returns-in_err-past-clause-none : goal.returns-in_err-past-clause-none
returns-in_err-past-clause-none c =
    let counter = c.index-counters-place.result in
    let same : to_z w64 (of_z w64 c.value_in.result) ≡ c.value_in.result = search rules in
    let valued : with_value (λ _. to_z w64 (of_z w64 c.value_in.result)) counter ≡ valued_in c.args.values.now counter =
    ap (λ (value : ℤ). with_value (λ _. value) counter) same ∙ c.value_in.ensures.value in
    if_none c.from_residual.result _
    (stuck (is_missing_in c.args.others.now) (valued_in c.args.values.now) c.args.counters.now c.loop-place.place counter c.args.list.now c.loop-place.past.now
    c.loop-place-test.true c.index-counters-place.is (sym c.is_missing_in.ensures.test ∙ c.if-is_missing_in.true) c.loop-place.invariant
    (λ past e. c.in_err-past.ensures.none past (e ∙ ap (λ first. first ∷ past) (sym valued))))
