-- How many symbols and additive tuples descriptors give.
use Rattle.std.specs.Prelude.{ℕ, length}
use Rattle.plain_types.specs.declared.counter_style.Descriptor.{Descriptor}
use Rattle.plain_types.specs.declared.counter_style.Descriptor.TheVariants as descriptor

abbrev pub symbol_count_after : ℕ → Descriptor → ℕ
symbol_count_after before (descriptor.Symbols symbols) = length symbols
symbol_count_after before _ = before

abbrev pub tuple_count_after : ℕ → Descriptor → ℕ
tuple_count_after before (descriptor.Additive weights) = length weights
tuple_count_after before _ = before
