-- The law of work where an edit changes styles beside those of the edited trees: what it reaches goes and comes (our own).
use Rattle.std.specs.Prelude.{◌≢◌, ℕ, ℤ, ◌+◌, ◌*◌, ◌≤◌, List, None}
use Rattle.plain_types.specs.declared.box_id.BoxId.{BoxId}
use Rattle.plain_types.specs.declared.edit.Edit.{Edit}
use Rattle.box_eval.specs.Evaluation.{StyledNode}
use Rattle.box_eval.specs.Starts.{no_starts}
use Rattle.generated_texts.specs.Documents.{agent_sheet, document_style}
use Rattle.merged_walk.specs.Counts.{budget, gone_count, led_count}
use Rattle.merged_walk.specs.Laws.{Merges}
use Rattle.merged_walk.specs.Merges.{Merge}
use Rattle.surroundings.specs.StyledEvaluators.{root_surroundings, styled_evaluator}
use Rattle.surroundings.specs.StyledEvaluators.{is_element as is_styled_element}
use Rattle.style_reach.specs.Reaches.{all_features}
use Rattle.style_reach.specs.declared.extent.Reach.TheVariants.{All}
use Rattle.edit_merge.specs.EditMerges.{is_element}
use Rattle.styled_merge.specs.Reached.{reached_merge}
use Rattle.styled_merge.specs.StyledMerges.{styled_merge}
use Rattle.edit_work.specs.Laws.{OfEachEdit}
use Rattle.edit_work.specs.KeyedSources.{KeyedSource, author, own_starts, styled_with, table}
use Rattle.edit_work.specs.Work.{edit_reach, walk_work}

module _ (edit : Edit) (before after : KeyedSource) where
  -- the merge of an edit where what it reaches goes and comes, with the styles of both documents and these starts
  abbrev pub reached_with : (was_start start : BoxId → List ℕ → ℤ) → Merge StyledNode
  reached_with was_start start =
      styled_merge (document_style (author before) before.tree) (document_style (author after) after.tree) was_start start None
      (reached_merge (all_features agent_sheet (author before)) edit before.tree after.tree)

  -- The work pays twice for a walk over this merge and for 2 steps at each node that it is led into: once for the walk, and once
  -- for one reading of what is kept for each change that it found. And it pays for taking out what was kept of elements that go.
  abbrev pub PaysForReachedWalk : (was_start start : BoxId → List ℕ → ℤ) → Type 0
  PaysForReachedWalk was_start start =
      let merge : Merge StyledNode = reached_with was_start start in
      (2 * (budget (styled_evaluator (table after)) root_surroundings root_surroundings merge + 2 * led_count merge) + gone_count is_styled_element merge)
      ≤ 24 * (walk_work edit before after + 1)

  -- it is a merge of the two documents as they are evaluated with these starts
  abbrev pub ReachedMergesWith : (was_start start : BoxId → List ℕ → ℤ) → Type 0
  ReachedMergesWith was_start start = Merges (reached_with was_start start) (styled_with before was_start) (styled_with after start)

  -- So it is with all starts 0; and with those that each document has, where no element that is kept has another start. What
  -- goes is no more than what pays for walks.
  pub record PaysForReachedWalks : Type 0 where
    pub plain : PaysForReachedWalk no_starts no_starts
    pub started : ReachedMergesWith (own_starts before) (own_starts after) → PaysForReachedWalk (own_starts before) (own_starts after)
    pub gone : gone_count is_element (reached_merge (all_features agent_sheet (author before)) edit before.tree after.tree) ≤ walk_work edit before after

-- where an edit does not change styles everywhere
abbrev pub NodesReachedArePaid : Type 0
NodesReachedArePaid = OfEachEdit (λ edit before after. edit_reach edit before after ≢ All → PaysForReachedWalks edit before after)
