use Rattle.std.proofs.Common.{◌≡◌, None, drop, option_copied, unwrap_or}
use Rattle.std.specs.List.{fold}
use Rattle.plain_types.specs.declared.style_ref.System.TheVariants.{Symbolic}
use Rattle.counter_style_table.specs.Named.{named_after}
use Rattle.css_definitions.specs.CounterStyles.{system_after}
use Rattle.counter_style_table.proofs.describe.named_system.Given as goal

abbrev pub invariant-loop-descriptor : goal.invariant-loop-descriptor
invariant-loop-descriptor l = record {
  system : fold system_after (unwrap_or (option_copied l.named) Symbolic) (drop l.descriptor-index l.descriptors) ≡ fold system_after Symbolic l.descriptors;
  last : fold named_after (option_copied l.named) (drop l.descriptor-index l.descriptors) ≡ fold named_after None l.descriptors;
}
