-- The law of work: it pays for the walk over the merge of an edit, and for the evaluation of a whole document.
use Rattle.std.specs.Prelude.{◌≡◌, ◌↔◌, ℕ, ℤ, ◌+◌, ◌*◌, ◌≤◌, true, List, None}
use Rattle.plain_types.specs.declared.box_id.BoxId.{BoxId}
use Rattle.plain_types.specs.declared.edit.Edit.{Edit}
use Rattle.node_arena.specs.Edits.{edited_sheet}
use Rattle.box_eval.specs.declared.inputs.Inputs.{Inputs}
use Rattle.box_eval.specs.Evaluation.{StyledNode}
use Rattle.box_eval.specs.Starts.{no_starts}
use Rattle.generated_texts.specs.Documents.{document_style}
use Rattle.merged_walk.specs.Counts.{budget, gone_count, led_count}
use Rattle.merged_walk.specs.Evaluators.{count_of_elements}
use Rattle.merged_walk.specs.Laws.{Merges}
use Rattle.merged_walk.specs.Merges.{Merge, all_come}
use Rattle.surroundings.specs.StyledEvaluators.{root_surroundings, styled_evaluator}
use Rattle.surroundings.specs.StyledEvaluators.{is_element as is_styled_element}
use Rattle.edit_merge.specs.EditMerges.{edit_merge, is_element}
use Rattle.edit_merge.specs.Laws.{IsDone}
use Rattle.style_reach.specs.declared.extent.Reach.TheVariants.{Own, All}
use Rattle.styled_merge.specs.StyledMerges.{styled_merge}
use Rattle.edit_work.specs.Inputs.{is_same_inputs}
use Rattle.edit_work.specs.KeyedSources.{KeyedSource, author, own_starts, styled_with, table}
use Rattle.edit_work.specs.Work.{edit_reach, walk_work, work}

-- the test tells whether inputs are equal
abbrev pub TestTellsInputs : Type 0
TestTellsInputs = (one other : Inputs) → (is_same_inputs one other ≡ true) ↔ (one ≡ other)

-- the first document allows the edit, and the second is what it makes of it
pub record Leads (edit : Edit) (before after : KeyedSource) : Type 0 where
  pub done : IsDone edit before.tree after.tree
  pub sheet : after.sheet ≡ edited_sheet edit before.sheet

abbrev pub OfEachEdit : (Edit → (before after : KeyedSource) → Type 0) → Type 0
OfEachEdit law = (edit : Edit) (before after : KeyedSource) → Leads edit before after → law edit before after

module _ (edit : Edit) (before after : KeyedSource) where
  -- the merge of an edit with the styles of both documents and these starts
  abbrev pub merge_with : (was_start start : BoxId → List ℕ → ℤ) → Merge StyledNode
  merge_with was_start start =
      styled_merge (document_style (author before) before.tree) (document_style (author after) after.tree) was_start start None
      (edit_merge edit before.tree after.tree)

  -- The work pays twice for a walk over this merge and for 2 steps at each node that it is led into: one that is turned, or has a
  -- place under it. A walk finds no more changes than it takes steps, so one half pays for the walk, and the other for one reading
  -- of what is kept for each change. And the work pays for taking out what was kept of elements that go.
  abbrev pub PaysForWalk : (was_start start : BoxId → List ℕ → ℤ) → Type 0
  PaysForWalk was_start start =
      let merge : Merge StyledNode = merge_with was_start start in
      (2 * (budget (styled_evaluator (table after)) root_surroundings root_surroundings merge + 2 * led_count merge) + gone_count is_styled_element merge)
      ≤ 24 * (walk_work edit before after + 1)

  -- it is a merge of the two documents as they are evaluated with these starts
  abbrev pub MergesWith : (was_start start : BoxId → List ℕ → ℤ) → Type 0
  MergesWith was_start start = Merges (merge_with was_start start) (styled_with before was_start) (styled_with after start)

  -- So it is with all starts 0; and with those that each document has, where no element that is kept has another start.
  pub record PaysForWalks : Type 0 where
    pub plain : PaysForWalk no_starts no_starts
    pub started : MergesWith (own_starts before) (own_starts after) → PaysForWalk (own_starts before) (own_starts after)

-- where an edit changes no styles beside those of the edited trees
abbrev pub OwnReachIsPaid : Type 0
OwnReachIsPaid = OfEachEdit (λ edit before after. edit_reach edit before after ≡ Own → PaysForWalks edit before after)

-- Where it changes styles everywhere, all elements of both documents are touched. So the work pays for a walk that
-- evaluates the whole document and for one reading for each change, and for taking out all that was kept. It pays for 8
-- steps at each element of the document after the edit too, and 1 at each of the one before.
pub record PaysForAll (edit : Edit) (before after : KeyedSource) : Type 0 where
  pub touched : (count_of_elements is_element before.tree + count_of_elements is_element after.tree) ≤ work edit before after
  pub paid :
      (2 * budget (styled_evaluator (table after)) root_surroundings root_surroundings (all_come (styled_with after (own_starts after))) + count_of_elements is_element before.tree)
      ≤ 24 * (work edit before after + 1)
  pub paid_by_element : (8 * count_of_elements is_element after.tree + count_of_elements is_element before.tree) ≤ 24 * (work edit before after + 1)

abbrev pub WholeReachIsPaid : Type 0
WholeReachIsPaid = OfEachEdit (λ edit before after. edit_reach edit before after ≡ All → PaysForAll edit before after)
