-- Laws of an edit that is walked twice: its work pays for what the second walk finds (our own).
use Rattle.std.specs.Prelude.{◌≡◌, ◌≤◌, ◌+◌, ◌*◌, ℕ, true, List}
use Rattle.std.specs.FinMap.{FinMap}
use Rattle.std.specs.Ordering.{nat_cmp}
use Rattle.plain_types.specs.declared.counter_style.CounterStyle.{CounterStyle}
use Rattle.box_eval.specs.Evaluation.{StyledNode}
use Rattle.merged_walk.specs.Counts.{budget, gone_count}
use Rattle.merged_walk.specs.Merges.{Merge}
use Rattle.surroundings.specs.declared.told.Told.{Told}
use Rattle.surroundings.specs.StyledEvaluators.{root_surroundings, styled_evaluator}
use Rattle.surroundings.specs.StyledEvaluators.{is_element as is_styled_element}
use Rattle.edit_work.specs.KeyedSources.{is_among, table}
use Rattle.edit_work.specs.Work.{work}
use Rattle.reference_reach.specs.Laws.{other_points}
use Rattle.reference_reach.specs.MergedNodes.{entered_elements}
use Rattle.reference_reach.specs.ToldLaws.{HasChangesInPoints, told_of}
use Rattle.start_reach.specs.Laws.{OfTurned, plain_merge, started_merge}
use Rattle.start_reach.specs.SecondMerges.{turned_merge}
use Rattle.kept_elements.specs.declared.kept.Kept.{Kept}
use Rattle.kept_elements.specs.News.{TellsNews}
use Rattle.kept_elements.specs.RenewalSteps.{renewal_weight}
use Rattle.kept_elements.specs.Renewals.{evaluated_as}

-- each element that the merge enters, since it comes, is turned or has a place under it, falls under a point of the edit's work
-- that is not that of references
abbrev pub TurnedEnterPoints : Type 0
TurnedEnterPoints =
    OfTurned (λ edit before after keys. (key : ℕ) → is_among (entered_elements (turned_merge edit before after (is_among keys))) key ≡ true
    → is_among (other_points edit before after) key ≡ true)

-- and so does each of which something else is told than before, each document with the starts that it has
abbrev pub StartedChangesAreTold : Type 0
StartedChangesAreTold = OfTurned (λ edit before after keys. HasChangesInPoints edit before after)

-- So the work of the edit pays for the texts that are made again by the news of a walk over the merge where these elements are
-- turned.
abbrev pub StartedNewsArePaid : Type 0
StartedNewsArePaid =
    OfTurned (λ edit before after keys. (table : List CounterStyle) (news : List (ℕ × Told)) (held : FinMap nat_cmp Kept) →
    let merge = turned_merge edit before after (is_among keys) in
    TellsNews table merge before.tree after.tree (told_of before) (told_of after) news held
    → renewal_weight (evaluated_as before.tree (told_of before)) (evaluated_as after.tree (told_of after)) merge news ≤ work edit before after)

-- the most steps that a walk over a merge of styled documents takes, each put counted as one; it may take fewer
abbrev pub walk_budget : List CounterStyle → Merge StyledNode → ℕ
walk_budget table merge = budget (styled_evaluator table) root_surroundings root_surroundings merge

-- And it pays for all steps of the edit together: for the most that both walks take, 3 for each element that goes, and 4 for each
-- unit of weight of those texts, which weigh no more than the work. To read the scopes of touched counters again takes no step, since
-- no board is read, so it is no part of the sum. It takes time: for that the sum leaves 20 steps of the bound over for each element in
-- these scopes.
abbrev pub StartedEditsArePaid : Type 0
StartedEditsArePaid =
    OfTurned (λ edit before after keys.
    (walk_budget (table after) (plain_merge edit before after)
    + walk_budget (table after) (started_merge edit before after keys)
    + 3 * gone_count is_styled_element (plain_merge edit before after)
    + 4 * work edit before after)
    ≤ 24 * (work edit before after + 1))
