-- What a book keeps for the two walks of an edit (our own, over CSS Lists 3, 4.4).
use Rattle.std.specs.Prelude.{◌≡◌, ℕ, List}
use Rattle.std.specs.FinMap.{FinMap}
use Rattle.std.specs.Ordering.{nat_cmp}
use Rattle.forest.specs.Forest.{Forest}
use Rattle.forest.specs.Keys.{Keyed}
use Rattle.plain_types.specs.declared.edit.Edit.{Edit}
use Rattle.plain_types.specs.declared.node.Node.{Node}
use Rattle.generated_texts.specs.StyleElements.{author_sheet}
use Rattle.merged_walk.specs.declared.stop.Stop.{Stop}
use Rattle.styled_merge.specs.Laws.{looks_beside}
use Rattle.styled_merge.specs.StopLaws.{stops_where}
use Rattle.edit_work.specs.KeyedSources.{KeyedSource}
use Rattle.started_walk.specs.declared.counting.Counting.{Counting}
use Rattle.started_walk.specs.Countings.{Counts}
use Rattle.target_index.specs.declared.index.Index.{Index}
use Rattle.kept_elements.specs.declared.kept.Kept.{Kept}
use Rattle.dirty_walk.specs.declared.document_styles.DocumentStyles.{DocumentStyles}
use Rattle.dirty_walk.specs.declared.local_stops.LocalStops.{LocalStops}
use Rattle.dirty_walk.specs.declared.read_ahead.ReadAhead.{ReadAhead}
use Rattle.dirty_walk.specs.Places.{IsLocalEdit}
use Rattle.dirty_walk.specs.ReadAhead.{StandsRead, WasReadOf}

-- Whatever document it was kept of, it is still.
abbrev pub StaysCounted : (old new : Counting) → Type 0
StaysCounted old new = (source : KeyedSource) → Counts source old → Counts source new

-- A book stands where the edit's walks may begin, this was read before the edit, and this was kept for both walks.
pub record StandsCounted (edit : Edit) (styles : DocumentStyles) (held : FinMap nat_cmp Kept) (local : LocalStops) (new : Forest (Keyed Node)) (ahead : ReadAhead) (index : Index) (counting : Counting) : Type 0 where
  pub stands : StandsRead edit styles held local new ahead index
  pub counts : Counts (record { tree = stands.before.old; sheet = styles.sheet }) counting

-- Some edit that does not change styles everywhere has made this document, of which these are the stops; this was read before it, and
-- this was kept for both walks of the document then.
pub record IsSomeCountedEdit (text : List ℕ) (held : FinMap nat_cmp Kept) (stops : List Stop) (new : Forest (Keyed Node)) (ahead : ReadAhead) (index : Index) (counting : Counting) : Type 0 where
  pub edit : Edit
  pub old : Forest (Keyed Node)
  pub at : IsLocalEdit edit text held old new
  pub stops_are : stops ≡ stops_where (looks_beside text old) edit old new
  pub read : WasReadOf edit (author_sheet text old) old ahead index
  pub counts : Counts (record { tree = old; sheet = text }) counting
