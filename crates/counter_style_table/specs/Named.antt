-- What descriptors name (our own).
use Rattle.std.specs.Prelude.{Option, Some}
use Rattle.plain_types.specs.declared.counter_style.Descriptor.{Descriptor}
use Rattle.plain_types.specs.declared.counter_style.Descriptor.TheVariants as descriptor
use Rattle.plain_types.specs.declared.style_ref.System.{System}

-- the system that is named last, once this descriptor is read too
abbrev pub named_after : Option System → Descriptor → Option System
named_after before (descriptor.System system) = Some system
named_after before _ = before
