use Rattle.std.proofs.Common.{◌≡◌, ◌∙◌, ◌++◌, ◌∷◌, [], ℤ, List, false, ap, subst, rules, IfOk, to_z, of_z, w64}
use Rattle.plain_types.specs.declared.counter.Counter.{Counter}
use Rattle.counter_sets.specs.Sets.{change_at, innermost_place, is_missing_in, with_value}
use Rattle.counter_sets.proofs.SetLemmas.{changed_there, changed_anew}
use Rattle.counter_sets.proofs.indexed_set.IndexedSet.assign.Goals as goal

pub returns-in-Some : goal.returns-in-Some
returns-in-Some c =
    let same : to_z w64 (of_z w64 c.args.value) ≡ c.args.value = search rules in
    let there = changed_there (is_missing_in c.args.parent.now) c.args.creator (λ _. c.args.value) c.args.self c.args.name.now c.in-Some.place
    (c.in-Some.ensures.place ∙ ap (innermost_place c.args.self) c.as_str.ensures.characters) c.in-Some.ensures.within in
    record {
      set = subst (λ (counters : List Counter). IfOk c.with_value.result (λ set. set ≡ counters)) (ap (λ (v : ℤ). change_at (with_value (λ _. v)) c.args.self c.in-Some.place) same ∙ there) c.with_value.ensures.set;
    }

pub returns-in-None : goal.returns-in-None
returns-in-None c =
    let same : to_z w64 (of_z w64 c.args.value) ≡ c.args.value = search rules in
    let anew = changed_anew (is_missing_in c.args.parent.now) c.args.creator (λ _. c.args.value) c.args.self c.args.name.now
    (c.in-None.ensures.place ∙ ap (innermost_place c.args.self) c.as_str.ensures.characters) in
    let new : ℤ → Counter = λ v. record { name = c.args.name.now; creator = c.args.creator; reversed = false; value = v } in
    record {
      set = subst (λ (counters : List Counter). IfOk c.with_new.result (λ set. set ≡ counters)) (ap (λ v. c.args.self ++ new v ∷ []) same ∙ anew) c.with_new.ensures.set;
    }
