-- What is told of an edited document otherwise than before, however it was found (our own).
use Rattle.std.specs.Prelude.{◌≡◌, ◌≤◌, ◌+◌, ◌*◌, ℕ, List, length}
use Rattle.std.specs.FinMap.{FinMap}
use Rattle.std.specs.Ordering.{nat_cmp}
use Rattle.forest.specs.Forest.{Forest}
use Rattle.forest.specs.Keys.{Keyed}
use Rattle.plain_types.specs.declared.edit.Edit.{Edit}
use Rattle.plain_types.specs.declared.node.Node.{Node}
use Rattle.generated_texts.specs.Documents.{counter_styles}
use Rattle.generated_texts.specs.StyleElements.{author_sheet}
use Rattle.merged_walk.specs.declared.stop.Stop.{Stop}
use Rattle.merged_walk.specs.Merges.{Merge}
use Rattle.merged_walk.specs.Stops.{stops_of}
use Rattle.surroundings.specs.declared.told.Told.{Told}
use Rattle.edit_merge.specs.EditMerges.{is_element}
use Rattle.target_index.specs.declared.index.Index.{Index}
use Rattle.kept_elements.specs.declared.kept.Kept.{Kept}
use Rattle.kept_elements.specs.Evaluations.{document_told}
use Rattle.kept_elements.specs.News.{TellsNews}
use Rattle.kept_elements.specs.RenewalSteps.{renewal_weight}
use Rattle.kept_elements.specs.Renewals.{evaluated_as}
use Rattle.dirty_walk.specs.declared.read_ahead.ReadAhead.{ReadAhead}
use Rattle.dirty_walk.specs.FormerTargets.{AreFormerTargetsOf}
use Rattle.dirty_walk.specs.Places.{IsLocalEdit, place_work}
use Rattle.dirty_walk.specs.ReadAhead.{WasReadOf}

-- Some edit that does not change styles everywhere has made this document. These are the stops of a merge of both documents, and the
-- news of a walk over it, whose texts the work of the edit pays for.
pub record IsSomeNews (text : List ℕ) (held : FinMap nat_cmp Kept) (stops : List Stop) (new : Forest (Keyed Node)) (news : List (ℕ × Told)) : Type 0 where
  pub edit : Edit
  pub old : Forest (Keyed Node)
  pub at : IsLocalEdit edit text held old new
  pub merge : Merge Node
  pub stops_are : stops ≡ stops_of is_element 0 merge
  pub tells : TellsNews (counter_styles (author_sheet text new)) merge old new (document_told (author_sheet text old) old) (document_told (author_sheet text new) new) news held
  pub paid :
      renewal_weight (evaluated_as old (document_told (author_sheet text old) old)) (evaluated_as new (document_told (author_sheet text new) new)) merge news
      ≤ place_work edit text old new

-- and this was read before it
pub record IsSomeNewsRead (text : List ℕ) (held : FinMap nat_cmp Kept) (stops : List Stop) (new : Forest (Keyed Node)) (ahead : ReadAhead) (index : Index) (news : List (ℕ × Told)) : Type 0 where
  pub some : IsSomeNews text held stops new news
  pub read : WasReadOf some.edit (author_sheet text some.old) some.old ahead index

-- Between one number of steps and another is no more than one for each element that goes, and 4 for each unit of the work of such an
-- edit, where what was read before it names what its ids named.
abbrev pub IsWithinNews : List ℕ → FinMap nat_cmp Kept → List Stop → Forest (Keyed Node) → ReadAhead → List (ℕ × Told) → (before now : ℕ) → Type 0
IsWithinNews text held stops new ahead news before now =
    (some : IsSomeNews text held stops new news) → AreFormerTargetsOf some.edit some.old ahead.former.now
    → now ≤ before + (length ahead.takes.now + 4 * place_work some.edit text some.old new)
