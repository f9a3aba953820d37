use Rattle.std.proofs.Common.{◌≡◌, ◌∙◌, IfOk, List, ℤ, ap, get_or, rules, subst, sym, to_z, of_z, w64}
use Rattle.plain_types.specs.declared.counter.Counter.{Counter}
use Rattle.counter_sets.specs.Sets.{AreDistinct, change_at, with_value}
use Rattle.counter_sets.proofs.DistinctLemmas.{changed_distinct}
use Rattle.counter_sets.proofs.InheritLemmas.{change_kept}
use Rattle.counter_sets.proofs.SetLemmas.{set_changed}
use Rattle.counter_sets.proofs.counter_set.CounterSet.with_value.Goals as goal

pub of-requires : goal.of-requires
of-requires c =
    let change : ℤ → ℤ = λ _. to_z w64 (of_z w64 c.args.value) in
    let counters = c.in_ok-counters.counters.items in
    let written = set_changed (with_value change) counters c.args.place c.index_mut.result.now c.index_mut.ensures.value in
    record { distinct = subst AreDistinct (sym written) (changed_distinct change counters c.args.place c.in_ok-counters.ensures.distinct) }

pub returns-then-as_slice-place : goal.returns-then-as_slice-place
returns-then-as_slice-place c =
    let item = c.index-as_slice-place.result in
    let there = get_or c.as_slice.result.now c.args.place item in
    let held : to_z w64 (of_z w64 there.value) ≡ there.value = search rules in
    let given : to_z w64 (of_z w64 c.args.value) ≡ c.args.value = search rules in
    let same : item.value ≡ c.args.value = ap (λ (counter : Counter). counter.value) c.index-as_slice-place.is ∙ sym held ∙ ap (to_z w64) c.if-as_slice-place.true ∙ given in
    record {
      set =
          change_kept c.args.value c.args.self c.args.place item c.requires.within
          (c.index-as_slice-place.is ∙ ap (λ counters. get_or counters c.args.place item) c.as_slice.ensures.counters) same;
    }

pub returns : goal.returns
returns c =
    let change : ℤ → ℤ = λ _. to_z w64 (of_z w64 c.args.value) in
    let counters = c.in_ok-counters.counters.items in
    let given : to_z w64 (of_z w64 c.args.value) ≡ c.args.value = search rules in
    let written =
    set_changed (with_value change) counters c.args.place c.index_mut.result.now c.index_mut.ensures.value
    ∙ ap (λ set. change_at (with_value change) set c.args.place) c.in_ok-counters.ensures.counters
    ∙ ap (λ (value : ℤ). change_at (with_value (λ _. value)) c.args.self c.args.place) given in
    record { set = subst (λ (set : List Counter). IfOk c.of.result (λ after. after ≡ set)) written c.of.ensures.counters }
