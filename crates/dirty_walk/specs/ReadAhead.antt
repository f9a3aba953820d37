-- What is read of a document before an edit of it is done (our own).
use Rattle.std.specs.Prelude.{◌≡◌}
use Rattle.std.specs.FinMap.{FinMap}
use Rattle.std.specs.Ordering.{nat_cmp}
use Rattle.forest.specs.Forest.{Forest}
use Rattle.forest.specs.Keys.{Keyed}
use Rattle.plain_types.specs.declared.edit.Edit.{Edit}
use Rattle.plain_types.specs.declared.node.Node.{Node}
use Rattle.plain_types.specs.declared.sheet.Sheet.{Sheet}
use Rattle.generated_texts.specs.StyleElements.{author_sheet}
use Rattle.target_index.specs.declared.index.Index.{Index}
use Rattle.referring_elements.specs.Indexes.{TellsReferences}
use Rattle.kept_elements.specs.declared.kept.Kept.{Kept}
use Rattle.kept_elements.specs.Evaluations.{evaluated_document}
use Rattle.dirty_walk.specs.declared.document_styles.DocumentStyles.{DocumentStyles}
use Rattle.dirty_walk.specs.declared.local_stops.LocalStops.{LocalStops}
use Rattle.dirty_walk.specs.declared.read_ahead.ReadAhead.{ReadAhead}
use Rattle.dirty_walk.specs.Exchanges.{elements_in, leaving, taken_keys}
use Rattle.dirty_walk.specs.FormerTargets.{AreFormerTargetsOf}
use Rattle.dirty_walk.specs.PlaceStyles.{StandsBefore}

-- this was read of a document under the author's sheet before this edit, and the index tells its references
pub record WasReadOf (edit : Edit) (author : Sheet) (old : Forest (Keyed Node)) (ahead : ReadAhead) (index : Index) : Type 0 where
  pub takes : ahead.takes.now ≡ taken_keys edit (elements_in (leaving edit old))
  pub former : AreFormerTargetsOf edit old ahead.former.now
  pub tells : TellsReferences index (evaluated_document author old)

-- the book stands where the edit's walks may begin, and this was read before the edit
pub record StandsRead (edit : Edit) (styles : DocumentStyles) (held : FinMap nat_cmp Kept) (local : LocalStops) (new : Forest (Keyed Node)) (ahead : ReadAhead) (index : Index) : Type 0 where
  pub before : StandsBefore edit styles held local new
  pub read : WasReadOf edit (author_sheet styles.sheet before.old) before.old ahead index
