-- The merge of an edit for the second of two evaluations (our own): what the edit reaches goes and comes, and elements that
-- stay under other starts are turned.
use Rattle.std.specs.Prelude.{ℕ, Bool, None}
use Rattle.plain_types.specs.declared.edit.Edit.{Edit}
use Rattle.plain_types.specs.declared.node.Node.{Node}
use Rattle.box_eval.specs.Evaluation.{StyledNode}
use Rattle.generated_texts.specs.Documents.{agent_sheet, document_style}
use Rattle.merged_walk.specs.Merges.{Merge}
use Rattle.edit_merge.specs.EditMerges.{is_element}
use Rattle.style_reach.specs.Reaches.{all_features}
use Rattle.styled_merge.specs.Reached.{reached_merge}
use Rattle.styled_merge.specs.StyledMerges.{Starting, styled_merge}
use Rattle.edit_work.specs.KeyedSources.{KeyedSource, author}
use Rattle.start_reach.specs.TurnedElements.{turned_where}

module _ (edit : Edit) (before after : KeyedSource) where
  -- the merge of the edit where what it reaches goes and comes
  abbrev pub first_merge : Merge Node
  first_merge = reached_merge (all_features agent_sheet (author before)) edit before.tree after.tree

  -- with the elements of these keys turned that it keeps
  abbrev pub turned_merge : (ℕ → Bool) → Merge Node
  turned_merge is_turned = turned_where is_element is_turned first_merge

  -- and with the styles of both documents and these starts
  abbrev pub second_merge : (ℕ → Bool) → (was_start start : Starting) → Merge StyledNode
  second_merge is_turned was_start start =
      styled_merge (document_style (author before) before.tree) (document_style (author after) after.tree) was_start start None (turned_merge is_turned)
