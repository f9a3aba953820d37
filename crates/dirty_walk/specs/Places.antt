-- Where what comes to a board by an edit is told by walks from the edit's place (our own).
use Rattle.std.specs.Prelude.{◌≡◌, ◌≢◌, ℕ, List}
use Rattle.std.specs.FinMap.{FinMap, get}
use Rattle.std.specs.Ordering.{nat_cmp}
use Rattle.forest.specs.Forest.{Forest}
use Rattle.forest.specs.Keys.{Keyed}
use Rattle.plain_types.specs.declared.edit.Edit.{Edit}
use Rattle.plain_types.specs.declared.node.Node.{Node}
use Rattle.generated_texts.specs.References.{kept_at}
use Rattle.generated_texts.specs.StyleElements.{author_sheet}
use Rattle.edit_merge.specs.Laws.{IsDone}
use Rattle.edit_work.specs.Work.{work}
use Rattle.style_reach.specs.Reaches.{reach}
use Rattle.style_reach.specs.declared.extent.Reach.TheVariants.{All}
use Rattle.styled_merge.specs.Laws.{looks_beside}
use Rattle.kept_elements.specs.declared.kept.Kept.{Kept}
use Rattle.kept_elements.specs.Evaluations.{document_kept}

-- A document has become another by an edit that does not change styles everywhere, so the text of the sheet stays, and this is
-- kept of the first.
pub record IsLocalEdit (edit : Edit) (text : List ℕ) (held : FinMap nat_cmp Kept) (old new : Forest (Keyed Node)) : Type 0 where
  pub done : IsDone edit old new
  pub local : reach (looks_beside text old) old edit ≢ All
  pub kept : (key : ℕ) → get held key ≡ kept_at (document_kept (author_sheet text old) old) key

-- the work of that edit
abbrev pub place_work : Edit → List ℕ → (old new : Forest (Keyed Node)) → ℕ
place_work edit text old new = work edit (record { tree = old; sheet = text }) (record { tree = new; sheet = text })
