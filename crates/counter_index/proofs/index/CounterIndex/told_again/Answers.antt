use Rattle.std.proofs.Common.{◌∷◌, ◌++◌, [], Some, ℕ, get_or, ◌∙◌}
use Rattle.std.proofs.lemmas.List.{get_or_default}
use Rattle.counter_index.specs.Indexes.{asked_at, counting_at, told_by_scope, with_values}
use Rattle.counter_index.proofs.ListLemmas.{map-turn}
use Rattle.counter_index.proofs.index.CounterIndex.told_again.Goals as goal

pub loop-key-preserved : goal.loop-key-preserved
loop-key-preserved c =
    let key = get_or c.args.keys.now c.loop-key.key-index 0 in
    let again = c.in_ok-starts_again.ensures.told in
    map-turn (λ (key : ℕ). (key, Some (with_values (told_by_scope (counting_at c.args.self.now) c.args.arena.now.tree) (asked_at c.args.self.now key))))
    c.loop-key.told.items c.push.new.self.items c.args.keys.now c.loop-key.key-index key c.loop-key-test.true (get_or_default c.args.keys.now c.loop-key.key-index 0 key c.loop-key-test.true) c.loop-key.invariant
    (c.in_ok-push.ensures.items ∙ (λ i. c.loop-key.told.items ++ (key, Some (again i)) ∷ []))
