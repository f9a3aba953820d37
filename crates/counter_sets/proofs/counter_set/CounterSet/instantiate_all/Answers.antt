use Rattle.std.proofs.Common.{◌≡◌, ◌∙◌, ◌++◌, IfOk, List, ap, subst, sym}
use Rattle.std.specs.List.{fold}
use Rattle.plain_types.specs.declared.counter.Counter.{Counter}
use Rattle.counter_sets.specs.Indexes.{left_by}
use Rattle.counter_sets.specs.Sets.{AreDistinct, instantiated, is_missing_in}
use Rattle.counter_sets.proofs.InstantiateLemmas.{instantiated_all}
use Rattle.counter_sets.proofs.counter_set.CounterSet.instantiate_all.Goals as goal

pub of-requires : goal.of-requires
of-requires c =
    let test = is_missing_in c.args.parent.now in
    let new = c.args.counters.items in
    let all : c.append.new.self.items ≡ fold (instantiated test) c.args.self new =
    c.in_ok-append.ensures.items
    ∙ ap (λ left. left ++ new)
    (c.in_ok-all.ensures.left
    ∙ ap (left_by (is_missing_in c.as_slice-2.result.now) c.as_slice-3.result.now) c.as_slice.ensures.counters
    ∙ ap (λ (parent : List Counter). left_by (is_missing_in parent) c.as_slice-3.result.now c.args.self) c.as_slice-2.ensures.counters
    ∙ ap (λ (named : List Counter). left_by test named c.args.self) c.as_slice-3.ensures.value)
    ∙ sym (instantiated_all test new c.args.self c.requires.names) in
    record { distinct = subst AreDistinct (sym all) c.requires.distinct }

pub returns : goal.returns
returns c =
    let test = is_missing_in c.args.parent.now in
    let new = c.args.counters.items in
    let all : c.append.new.self.items ≡ fold (instantiated test) c.args.self new =
    c.in_ok-append.ensures.items
    ∙ ap (λ left. left ++ new)
    (c.in_ok-all.ensures.left
    ∙ ap (left_by (is_missing_in c.as_slice-2.result.now) c.as_slice-3.result.now) c.as_slice.ensures.counters
    ∙ ap (λ (parent : List Counter). left_by (is_missing_in parent) c.as_slice-3.result.now c.args.self) c.as_slice-2.ensures.counters
    ∙ ap (λ (named : List Counter). left_by test named c.args.self) c.as_slice-3.ensures.value)
    ∙ sym (instantiated_all test new c.args.self c.requires.names) in
    record { set = subst (λ (counters : List Counter). IfOk c.of.result (λ set. set ≡ counters)) all c.of.ensures.counters }
