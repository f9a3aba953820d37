use Rattle.std.proofs.Common.{◌∙◌, ◌++◌, [], ap, filter, map}
use Rattle.counter_sets.specs.Sets.{is_missing_in, valued_in}
use Rattle.counter_sets.proofs.InheritLemmas.{inherited_parts}
use Rattle.counter_sets.proofs.inheriting.copy_inherited.Goals as goal

pub returns : goal.returns
returns c =
    let parent = c.args.parent.now in
    let added = filter (is_missing_in parent) c.args.sibling.now in
    let values = valued_in c.args.values.now in
    let own = map values (filter (is_missing_in []) parent) in
    record {
      copy =
          c.in_ok-push_added-2.ensures.ok
          ∙ ap (λ list. list ++ map values (filter (is_missing_in c.besides.result.0.now) c.besides.result.1.now)) (c.in_ok-push_added.ensures.ok ∙ ap (λ list. list ++ own) c.in_ok-list.ensures.items)
          ∙ ap (λ counters. own ++ map values counters) c.besides.ensures.same
          ∙ inherited_parts values parent added;
    }
