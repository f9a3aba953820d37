-- Where a book stands while an edit is evaluated, whose walks may begin at its place (our own).
use Rattle.std.specs.Prelude.{◌≡◌}
use Rattle.std.specs.FinMap.{FinMap}
use Rattle.std.specs.Ordering.{nat_cmp}
use Rattle.forest.specs.Forest.{Forest}
use Rattle.forest.specs.Keys.{Keyed}
use Rattle.plain_types.specs.declared.edit.Edit.{Edit}
use Rattle.plain_types.specs.declared.node.Node.{Node}
use Rattle.style_reach.specs.Reaches.{reach}
use Rattle.styled_merge.specs.Laws.{looks_beside}
use Rattle.styled_merge.specs.ReachStops.{reach_stops}
use Rattle.dirty_walk.specs.declared.document_styles.DocumentStyles.{DocumentStyles}
use Rattle.kept_elements.specs.declared.kept.Kept.{Kept}
use Rattle.dirty_walk.specs.declared.local_stops.LocalStops.{LocalStops}
use Rattle.dirty_walk.specs.DocumentStyles.{document_styles}
use Rattle.dirty_walk.specs.Places.{IsLocalEdit}

-- The styles and what is held are those of the document before the edit, and the reach and the stops are the edit's, where
-- the key of what it inserts is not known yet.
pub record StandsBefore (edit : Edit) (styles : DocumentStyles) (held : FinMap nat_cmp Kept) (local : LocalStops) (new : Forest (Keyed Node)) : Type 0 where
  pub old : Forest (Keyed Node)
  pub styles_are : styles ≡ document_styles styles.sheet old
  pub at : IsLocalEdit edit styles.sheet held old new
  pub extent_is : local.extent ≡ reach (looks_beside styles.sheet old) old edit
  pub stops_are : local.stops.items ≡ reach_stops local.extent edit 0 old
