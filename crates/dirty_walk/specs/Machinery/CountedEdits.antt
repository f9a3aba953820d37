-- What an edit takes that is evaluated from its place, by one walk or by two (our own).
use Rattle.std.specs.Prelude.{◌≤◌, ◌+◌, ◌*◌, ℕ, List, length}
use Rattle.std.specs.FinMap.{FinMap}
use Rattle.std.specs.Ordering.{nat_cmp}
use Rattle.forest.specs.Forest.{Forest}
use Rattle.forest.specs.Keys.{Keyed, without_keys}
use Rattle.plain_types.specs.declared.edit.Edit.{Edit}
use Rattle.plain_types.specs.declared.node.Node.{Node}
use Rattle.document_walk.specs.Elements.{element_count}
use Rattle.merged_walk.specs.declared.stop.Stop.{Stop}
use Rattle.started_walk.specs.declared.counting.Counting.{Counting}
use Rattle.target_index.specs.declared.index.Index.{Index}
use Rattle.kept_elements.specs.declared.kept.Kept.{Kept}
use Rattle.dirty_walk.specs.declared.document_styles.DocumentStyles.{DocumentStyles}
use Rattle.dirty_walk.specs.declared.local_stops.LocalStops.{LocalStops}
use Rattle.dirty_walk.specs.declared.read_ahead.ReadAhead.{ReadAhead}
use Rattle.dirty_walk.specs.Countings.{IsSomeCountedEdit, StandsCounted}
use Rattle.dirty_walk.specs.Places.{place_work}

-- Each is said of every edit by which the document can have become this one.

module _ (text : List ℕ) (held : FinMap nat_cmp Kept) (stops : List Stop) (new : Forest (Keyed Node)) (ahead : ReadAhead) (index : Index) (counting : Counting) where
  -- Between one number of steps and another, with one for each element that goes, are no more than 24 for each unit of the work of
  -- such an edit, and 24 more.
  abbrev pub IsWithinCounted : (before now : ℕ) → Type 0
  IsWithinCounted before now =
      (some : IsSomeCountedEdit text held stops new ahead index counting) → (now + length ahead.takes.now) ≤ before + 24 * (place_work some.edit text some.old new + 1)

  -- and no more than 11 for each element of this document, and one for each of the document before
  abbrev pub IsWithinCountedElements : (before now : ℕ) → Type 0
  IsWithinCountedElements before now =
      (some : IsSomeCountedEdit text held stops new ahead index counting) → now ≤ before + (11 * element_count (without_keys new) + element_count (without_keys some.old))

-- The same of this edit, where the book stands.

module _ (edit : Edit) (styles : DocumentStyles) (held : FinMap nat_cmp Kept) (local : LocalStops) (new : Forest (Keyed Node)) (ahead : ReadAhead) (index : Index) (counting : Counting) where
  abbrev pub IsWithinEdit : (before now : ℕ) → Type 0
  IsWithinEdit before now =
      (there : StandsCounted edit styles held local new ahead index counting)
      → (now + length ahead.takes.now) ≤ before + 24 * (place_work edit styles.sheet there.stands.before.old new + 1)

  abbrev pub IsWithinEditElements : (before now : ℕ) → Type 0
  IsWithinEditElements before now =
      (there : StandsCounted edit styles held local new ahead index counting)
      → now ≤ before + (11 * element_count (without_keys new) + element_count (without_keys there.stands.before.old))
