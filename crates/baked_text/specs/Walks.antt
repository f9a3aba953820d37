-- What a walk over the tags of a document gives, and what is counted on it (our own).
use Rattle.std.specs.Prelude.{ℕ, ◌-◌, ◌^◌, min, List}
use Rattle.std.specs.Borrow.{Bor}
use Rattle.std.specs.Str.{chars}
use Rattle.bake_definitions.specs.Insertions.{Insertion}
use Rattle.plain_types.specs.declared.box_kind.BoxKind.{BoxKind}

-- the kind of a box and its text, as an insertion
abbrev pub insertion_view : BoxKind × Bor (List ℕ) → Insertion
insertion_view x = record { kind = x.0; text = chars x.1.now }

-- a number as a usize tells it, which ends at its greatest
abbrev pub saturated : ℕ → ℕ
saturated number = min number (2 ^ 64 - 1)
