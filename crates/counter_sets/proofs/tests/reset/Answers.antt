use Rattle.std.proofs.Common.{false, pos, ap, sym, ◌∙◌}
use Rattle.plain_types.specs.declared.counter.Counter.{Counter}
use Rattle.counter_sets.specs.Sets.{is_missing_in}
use Rattle.counter_sets.proofs.DistinctLemmas.{instantiated_distinct}
use Rattle.counter_sets.proofs.tests.reset.Goals as goal

pub instantiate-requires : goal.instantiate-requires
instantiate-requires c =
    let new : Counter = record { name = c.in_ok-from_str.field-0; creator = c.element.result; reversed = false; value = pos 0 } in
    record {
      distinct =
          instantiated_distinct (is_missing_in c.args.parent.now) c.args.set new c.as_slice.ensures.distinct
          (ap (λ counters. is_missing_in counters new) (sym c.as_slice.ensures.counters) ∙ sym c.is_missing_in.ensures.test ∙ c.if-is_missing_in.true);
    }
