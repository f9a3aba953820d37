-- What edits make of a volume (our own).
use Rattle.std.specs.Prelude.{◌≡◌, ℕ, List, Some, Ok, slice_get, slice_set}
use Rattle.book_definitions.specs.Chapters.{Chapter}
use Rattle.book_refs.specs.Volumes.{source_of}
use Rattle.marker_engine.specs.Edited.{edited}
use Rattle.node_arena.specs.Edits.{IsEdited}
use Rattle.plain_types.specs.declared.edit.Edit.{Edit}

-- An edit makes the second chapter of the first: of its document and its sheet, which keeps its name. Nodes that stay keep
-- their keys.
pub record IsEditedChapter (edit : Edit) (old new : Chapter) : Type 0 where
  pub name : new.name ≡ old.name
  pub source : edited (source_of old) edit ≡ Ok (source_of new)
  pub keys : IsEdited edit old.document new.document

-- An edit makes the second volume of the first: so it does of the chapter at this place, and each other stays.
pub record IsEditedAt (place : ℕ) (edit : Edit) (old new : List Chapter) : Type 0 where
  pub before : Chapter
  pub after : Chapter
  pub was : slice_get old place ≡ Some before
  pub is : new ≡ slice_set old place after
  pub chapter : IsEditedChapter edit before after
