use Rattle.std.proofs.Common.{◌≡◌, ◌∙◌, ◌++◌, ◌∷◌, [], ℤ, pos, List, false, ap, sym, subst, rules, get_or, IfOk, to_z, of_z, w64}
use Rattle.plain_types.specs.Counts.{count_sum}
use Rattle.plain_types.specs.declared.counter.Counter.{Counter}
use Rattle.counter_sets.specs.Sets.{innermost_place, is_missing_in}
use Rattle.counter_sets.proofs.SetLemmas.{changed_alike, changed_there, changed_anew}
use Rattle.counter_sets.proofs.indexed_set.IndexedSet.increment.Goals as goal

pub returns-in-Some : goal.returns-in-Some
returns-in-Some c =
    let item = c.index-as_slice-place.result in
    let held : to_z w64 (of_z w64 (get_or c.as_slice.result.now c.in-Some.place item).value) ≡ (get_or c.as_slice.result.now c.in-Some.place item).value = search rules in
    let by : to_z w64 (of_z w64 c.args.by) ≡ c.args.by = search rules in
    let sum : to_z w64 (of_z w64 c.add_counts-value.result) ≡ c.add_counts-value.result = search rules in
    let value : to_z w64 (of_z w64 c.add_counts-value.result) ≡ count_sum item.value c.args.by =
    sum ∙ c.add_counts-value.ensures.sum ∙ ap (λ (v : ℤ). count_sum v (to_z w64 (of_z w64 c.args.by))) (held ∙ ap (λ (d : Counter). d.value) (sym c.index-as_slice-place.is)) ∙ ap (count_sum item.value) by in
    let alike = changed_alike (λ v. count_sum v c.args.by) (to_z w64 (of_z w64 c.add_counts-value.result)) c.args.self c.in-Some.place item
    (c.index-as_slice-place.is ∙ ap (λ counters. get_or counters c.in-Some.place item) c.as_slice.ensures.counters) value in
    let there = changed_there (is_missing_in c.args.parent.now) c.args.creator (λ v. count_sum v c.args.by) c.args.self c.args.name.now c.in-Some.place
    (c.in-Some.ensures.place ∙ ap (innermost_place c.args.self) c.as_str.ensures.characters) c.in-Some.ensures.within in
    record {
      set = subst (λ (counters : List Counter). IfOk c.with_value.result (λ set. set ≡ counters)) (alike ∙ there) c.with_value.ensures.set;
    }

pub returns-in-None : goal.returns-in-None
returns-in-None c =
    let by : to_z w64 (of_z w64 c.args.by) ≡ c.args.by = search rules in
    let sum : to_z w64 (of_z w64 c.add_counts.result) ≡ c.add_counts.result = search rules in
    let anew = changed_anew (is_missing_in c.args.parent.now) c.args.creator (λ v. count_sum v c.args.by) c.args.self c.args.name.now
    (c.in-None.ensures.place ∙ ap (innermost_place c.args.self) c.as_str.ensures.characters) in
    let new : ℤ → Counter = λ v. record { name = c.args.name.now; creator = c.args.creator; reversed = false; value = v } in
    record {
      set = subst (λ (counters : List Counter). IfOk c.with_new.result (λ set. set ≡ counters))
          (ap (λ v. c.args.self ++ new v ∷ []) (sum ∙ c.add_counts.ensures.sum ∙ ap (count_sum (pos 0)) by) ∙ anew) c.with_new.ensures.set;
    }
