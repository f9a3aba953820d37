-- Whether an element asks for starts, by what an index has of the elements.
use Rattle.std.proofs.Common.{◌≡◌, Option, None, Some, refl, sym, ◌∙◌}
use Rattle.box_eval.specs.Starts.{has_starts}
use Rattle.counter_index.specs.declared.deeds.CounterDeeds.{CounterDeeds}
use Rattle.counter_index.specs.declared.index.CounterIndex.{CounterIndex}
use Rattle.counter_index.specs.Machinery.Asking.{HasAsking, is_asking}
use Rattle.counter_index.specs.Indexes.{AsksForStarts, asked_by, deeds_at}

asks-here : (deeds : Option CounterDeeds) → is_asking (λ (its : CounterDeeds). has_starts its.asked) deeds ≡ has_starts (asked_by deeds)
asks-here None = refl
asks-here (Some deeds) = refl

pub asks-for-starts : (index : CounterIndex) → HasAsking (λ (its : CounterDeeds). has_starts its.asked) index.deeds.held → AsksForStarts index
asks-for-starts index has = (has.0, sym (asks-here (deeds_at index has.0)) ∙ has.1)

pub starts-are-asked : (index : CounterIndex) → AsksForStarts index → HasAsking (λ (its : CounterDeeds). has_starts its.asked) index.deeds.held
starts-are-asked index asks = (asks.0, asks-here (deeds_at index asks.0) ∙ asks.1)
