use Rattle.std.proofs.Common.{◌≡◌, ◌∙◌, ◌++◌, ◌∷◌, [], ℕ, List, false, ap, subst, sym, to_z, of_z, w64}
use Rattle.plain_types.specs.declared.counter.Counter.{Counter}
use Rattle.counter_sets.specs.Sets.{AreDistinct}
use Rattle.counter_sets.proofs.DistinctLemmas.{distinct_push, unnamed_missing}
use Rattle.counter_sets.proofs.counter_set.CounterSet.with_new.Goals as goal

pub of-requires : goal.of-requires
of-requires c =
    let set = c.args.self in
    let new : List ℕ → Counter = λ name. record { name = name; creator = c.args.creator; reversed = false; value = to_z w64 (of_z w64 c.args.value) } in
    let pushed : c.push.new.self.items ≡ set ++ new c.args.name.now ∷ [] =
    c.in_ok-push.ensures.items
    ∙ ap (λ counters. counters ++ new c.in_ok-name.name ∷ []) c.in_ok-counters.ensures.counters
    ∙ ap (λ name. set ++ new name ∷ []) (c.in_ok-name.ensures.characters ∙ c.as_str.ensures.characters) in
    let distinct = subst AreDistinct c.in_ok-counters.ensures.counters c.in_ok-counters.ensures.distinct in
    record {
      distinct = subst AreDistinct (sym pushed) (distinct_push set (new c.args.name.now) distinct (unnamed_missing set (new c.args.name.now) c.requires.unused));
    }
