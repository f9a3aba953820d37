-- What the second walk of an edit tells of a document, and what it takes to bring a board to that document by it. Where no box asks
-- for the start of a reversed counter, the first one is the second one too (our own).
use Rattle.std.specs.Prelude.{◌≡◌, ◌≤◌, ◌+◌, ◌*◌, ℕ, List, length}
use Rattle.std.specs.FinMap.{FinMap}
use Rattle.std.specs.Ordering.{nat_cmp}
use Rattle.forest.specs.Forest.{Forest}
use Rattle.forest.specs.Keys.{Keyed, without_keys}
use Rattle.plain_types.specs.declared.edit.Edit.{Edit}
use Rattle.plain_types.specs.declared.node.Node.{Node}
use Rattle.generated_texts.specs.StyleElements.{author_sheet}
use Rattle.merged_walk.specs.declared.stop.Stop.{Stop}
use Rattle.surroundings.specs.declared.told.Told.{Told}
use Rattle.document_walk.specs.Elements.{element_count}
use Rattle.styled_merge.specs.Laws.{looks_beside}
use Rattle.styled_merge.specs.StopLaws.{stops_where}
use Rattle.start_reach.specs.Laws.{AreTurned}
use Rattle.start_reach.specs.TurnedElements.{with_ways_to}
use Rattle.started_walk.specs.Walks.{Finds}
use Rattle.target_index.specs.declared.index.Index.{Index}
use Rattle.kept_elements.specs.declared.kept.Kept.{Kept}
use Rattle.kept_elements.specs.Evaluations.{document_told}
use Rattle.dirty_walk.specs.declared.read_ahead.ReadAhead.{ReadAhead}
use Rattle.dirty_walk.specs.Places.{IsLocalEdit, place_work}
use Rattle.dirty_walk.specs.ReadAhead.{WasReadOf}

-- Some edit that does not change styles everywhere has made this document, and this was read before it. Elements are turned by it, and
-- these are its stops with the ways to them; a walk from there, with the starts of the document, has told this.
pub record IsSomeSecondWalk (text : List ℕ) (held : FinMap nat_cmp Kept) (ways : List Stop) (new : Forest (Keyed Node)) (ahead : ReadAhead) (index : Index) (told : List (ℕ × Told)) : Type 0 where
  pub edit : Edit
  pub old : Forest (Keyed Node)
  pub at : IsLocalEdit edit text held old new
  pub read : WasReadOf edit (author_sheet text old) old ahead index
  pub keys : List ℕ
  pub turned : AreTurned edit (record { tree = old; sheet = text }) (record { tree = new; sheet = text }) keys
  pub ways_are : ways ≡ with_ways_to new keys (stops_where (looks_beside text old) edit old new)
  pub finds : Finds (document_told (author_sheet text old) old) (document_told (author_sheet text new) new) told

module _ (text : List ℕ) (held : FinMap nat_cmp Kept) (ways : List Stop) (new : Forest (Keyed Node)) (ahead : ReadAhead) (index : Index) (told : List (ℕ × Told)) where
  -- Between one number of steps and another is no more than one for each element of which it told, one for each that goes, and 4 for each
  -- unit of the work of such an edit.
  abbrev pub IsWithinSecond : (before now : ℕ) → Type 0
  IsWithinSecond before now =
      (walk : IsSomeSecondWalk text held ways new ahead index told)
      → now ≤ before + (length told + (length ahead.takes.now + 4 * place_work walk.edit text walk.old new))

  -- and no more than 3 for each element of this document, and one for each of the document before
  abbrev pub IsWithinSecondElements : (before now : ℕ) → Type 0
  IsWithinSecondElements before now =
      (walk : IsSomeSecondWalk text held ways new ahead index told) → now ≤ before + (3 * element_count (without_keys new) + element_count (without_keys walk.old))
