-- What the data of a predefined style stand for.
use Rattle.std.specs.Prelude.{ℕ, ℤ, pos, List, [], ◌∷◌, Some, None, codes, map}
use Rattle.std.specs.Borrow.{Bor}
use Rattle.std.specs.Str.{chars}
use Rattle.plain_types.specs.declared.counter_style.Descriptor.{Descriptor}
use Rattle.plain_types.specs.declared.counter_style.Descriptor.TheVariants as descriptor
use Rattle.plain_types.specs.declared.counter_style.StyleDef.{StyleDef}
use Rattle.plain_types.specs.declared.counter_style.Weight.{Weight}
use Rattle.plain_types.specs.declared.style_ref.System.TheVariants as system
use Rattle.css_definitions.specs.PredefinedStyles.{symbols_of}
use Rattle.counter_style_table.specs.declared.predefined.Kind.{Kind}
use Rattle.counter_style_table.specs.declared.predefined.Kind.TheVariants.{Numeric, LeadingZero, CjkDecimal, Alphabetic, Additive, Sign}
use Rattle.counter_style_table.specs.declared.predefined.Predefined.{Predefined}

abbrev pub tuple_of : (ℤ × Bor (List ℕ)) → Weight
tuple_of (weight, symbol) = record { weight = weight; symbol = chars symbol.now }

abbrev pub descriptors_of : Kind → List Descriptor
descriptors_of (Numeric digits) = descriptor.System system.Numeric ∷ descriptor.Symbols (symbols_of (chars digits.now)) ∷ []
descriptors_of LeadingZero = descriptor.System (system.Extends (codes "decimal")) ∷ descriptor.Pad (pos 2) (codes "0") ∷ []
descriptors_of (CjkDecimal digits suffix) =
    descriptor.System system.Numeric ∷ descriptor.Range (record { low = Some (pos 0); high = None } ∷ [])
    ∷ descriptor.Symbols (symbols_of (chars digits.now)) ∷ descriptor.Suffix (chars suffix.now) ∷ []
descriptors_of (Alphabetic letters) = descriptor.System system.Alphabetic ∷ descriptor.Symbols (symbols_of (chars letters.now)) ∷ []
descriptors_of (Additive high tuples) =
    descriptor.System system.Additive ∷ descriptor.Range (record { low = Some (pos 1); high = Some high } ∷ [])
    ∷ descriptor.Additive (map tuple_of tuples.now) ∷ []
descriptors_of (Sign sign) = descriptor.System system.Cyclic ∷ descriptor.Symbols (symbols_of (chars sign.now)) ∷ descriptor.Suffix (codes " ") ∷ []

abbrev pub rule_of : Predefined → StyleDef
rule_of style = record { name = chars style.name.now; descriptors = descriptors_of style.kind }
