-- What the merge of an edit is, and that its stops are those that the edit's paths tell (our own).
use Rattle.std.specs.Prelude.{◌≡◌, None}
use Rattle.forest.specs.Forest.{Forest}
use Rattle.forest.specs.Keys.{Keyed, without_keys}
use Rattle.plain_types.specs.Tree.{IsOne}
use Rattle.plain_types.specs.declared.edit.Edit.{Edit}
use Rattle.plain_types.specs.declared.edit.Edit.TheVariants.{Insert, Remove, Move, SetAttr, UnsetAttr, ReplaceSheet}
use Rattle.plain_types.specs.declared.node.Node.{Node}
use Rattle.node_arena.specs.Document.{IsKeyedDocument}
use Rattle.node_arena.specs.Edits.{IsEdited, place_fault}
use Rattle.merged_walk.specs.Laws.{Merges}
use Rattle.merged_walk.specs.Stops.{stops_of}
use Rattle.edit_merge.specs.EditMerges.{edit_merge, edit_stops, inserted_key, is_element}
use Rattle.surroundings.specs.MergedLevels.{AreAllLed, HasLeaves}

-- what an edit inserts is one tree
abbrev pub InsertsOneTree : Edit → Type 0
InsertsOneTree (Insert parent index fragment) = IsOne fragment
InsertsOneTree (Remove path) = Unit {0}
InsertsOneTree (Move from parent index) = Unit {0}
InsertsOneTree (SetAttr path name value) = Unit {0}
InsertsOneTree (UnsetAttr path name) = Unit {0}
InsertsOneTree (ReplaceSheet text) = Unit {0}

-- the edit is of the document, not of the sheet beside it
abbrev pub ChangesDocument : Edit → Type 0
ChangesDocument (Insert parent index fragment) = Unit {0}
ChangesDocument (Remove path) = Unit {0}
ChangesDocument (Move from parent index) = Unit {0}
ChangesDocument (SetAttr path name value) = Unit {0}
ChangesDocument (UnsetAttr path name) = Unit {0}
ChangesDocument (ReplaceSheet text) = ⊥

-- the first document allows the edit, and the second is what it makes of it
pub record IsDone (edit : Edit) (old new : Forest (Keyed Node)) : Type 0 where
  pub before : IsKeyedDocument old
  pub after : IsKeyedDocument new
  pub allowed : place_fault edit (without_keys old) ≡ None
  pub fragment : InsertsOneTree edit
  pub edited : IsEdited edit old new

abbrev pub OfEachEdit : (Edit → Forest (Keyed Node) → Forest (Keyed Node) → Type 0) → Type 0
OfEachEdit law = (edit : Edit) (old new : Forest (Keyed Node)) → IsDone edit old new → law edit old new

-- the merge has the document before the edit and the one after it
abbrev pub EditsMerge : Type 0
EditsMerge = OfEachEdit (λ edit old new. Merges (edit_merge edit old new) old new)

-- its stops are told by paths in the document before
abbrev pub EditsStop : Type 0
EditsStop = OfEachEdit (λ edit old new. stops_of is_element 0 (edit_merge edit old new) ≡ edit_stops edit (inserted_key edit new) old)

-- texts have no children in it
abbrev pub EditsHaveLeaves : Type 0
EditsHaveLeaves = OfEachEdit (λ edit old new. HasLeaves is_element (edit_merge edit old new))

-- where the edit changes the document, the root has a place under it, or goes and comes
abbrev pub EditsLead : Type 0
EditsLead = OfEachEdit (λ edit old new. ChangesDocument edit → AreAllLed (edit_merge edit old new))
