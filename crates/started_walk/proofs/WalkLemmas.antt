-- A walk over the merge where elements are turned may begin, and what it finds is what is told otherwise.
use Rattle.std.proofs.Common.{◌≡◌, ◌≤◌, ◌+◌, ◌*◌, ◌∙◌, ℕ, List, Option, length, sym, ap, subst}
use Rattle.forest.specs.Keys.{without_keys}
use Rattle.box_eval.specs.Evaluation.{StyledNode}
use Rattle.generated_texts.specs.Documents.{counter_styles}
use Rattle.merged_walk.specs.declared.stop.Stop.{Stop}
use Rattle.merged_walk.specs.Counts.{budget}
use Rattle.merged_walk.specs.Entries.{AreAmong, Covers, Holds, first_at}
use Rattle.merged_walk.specs.Laws.{Merges}
use Rattle.merged_walk.specs.Merges.{Merge}
use Rattle.surroundings.specs.declared.told.Told.{Told}
use Rattle.surroundings.specs.declared.walked.Walked.{Walked}
use Rattle.surroundings.specs.Laws.{told_document}
use Rattle.surroundings.specs.StyledEvaluators.{is_element, root_surroundings, styled_evaluator}
use Rattle.document_walk.specs.Catching.{Reading, document_of}
use Rattle.document_walk.specs.CatchingUp.{AreAllAmong, AreOfElements, CanCatchUp, CoversAll, IsWithinBudget, IsWithinElements}
use Rattle.document_walk.specs.Elements.{element_count}
use Rattle.styled_merge.specs.StopLaws.{IsWalkable}
use Rattle.edit_work.specs.KeyedSources.{is_among, styled_with, table}
use Rattle.reference_reach.specs.ToldLaws.{told_with}
use Rattle.start_reach.specs.TurnedElements.{with_ways_to}
use Rattle.start_reach.proofs.LawLemmas.{author-stays, second_merges_are_started, second_merges_are_walkable}
use Rattle.started_walk.specs.Walks.{Finds, StandsTurned, edit_stops, merge_of}
use Rattle.started_walk.proofs.ToldKeys.{holds}

module _ (from : Reading) (kept : ℕ → Option Walked) (stops : List Stop) (walk : StandsTurned from kept stops) where
  abbrev pub was_told : ℕ → Option Told
  was_told = first_at (told_with walk.before walk.was_start)

  same-table : table walk.before ≡ from.table
  same-table = sym (ap counter_styles (author-stays walk.edit walk.before walk.after walk.leads walk.local)) ∙ sym walk.reads.table

  started : Merges (merge_of walk) (styled_with walk.before walk.was_start) (styled_with walk.after walk.start)
  started = second_merges_are_started walk.edit walk.before walk.after walk.leads (is_among walk.keys) walk.was_start walk.start walk.same

  walkable : IsWalkable is_element (with_ways_to walk.after.tree walk.keys (edit_stops walk.edit walk.before walk.after)) (merge_of walk)
  walkable = second_merges_are_walkable walk.edit walk.before walk.after walk.leads walk.keys walk.stay walk.was_start walk.start

  pub can : CanCatchUp from kept stops (merge_of walk) was_told
  can = record {
    new = started.new ∙ sym walk.reads.document;
    holds = subst (λ trees. Holds was_told (told_document from.table trees)) (sym started.old)
        (subst (λ own. Holds was_told (told_document own (styled_with walk.before walk.was_start))) same-table (holds walk.before walk.leads.done.before.distinct walk.was_start));
    read = walk.keeps;
    stops = walk.stops_are ∙ walkable.stops;
    leaves = walkable.leaves;
    led = walkable.led;
  }

  told-is : told_document from.table (document_of from) ≡ told_with walk.after walk.start
  told-is = ap (told_document from.table) walk.reads.document ∙ ap (λ own. told_document own (styled_with walk.after walk.start)) walk.reads.table

  -- The same is said of stops that are these.
  module _ (at : List Stop) (same : at ≡ stops) where
    abbrev pub stands : (merge : Merge StyledNode) × ((held : ℕ → Option Told) × CanCatchUp from kept at merge held)
    stands = (merge_of walk, (was_told, subst (λ those. CanCatchUp from kept those (merge_of walk) was_told) (sym same) can))

    pub finds : (found : List (ℕ × Told)) → CoversAll from kept at found → AreAllAmong from kept at found → Finds (told_with walk.before walk.was_start) (told_with walk.after walk.start) found
    finds found covers among = record {
      covers = subst (λ all. Covers found was_told all) told-is (covers (merge_of walk) was_told stands.1.1);
      among = subst (λ all. AreAmong found all) told-is (among (merge_of walk) was_told stands.1.1);
    }

    pub within : (before now : ℕ) → IsWithinBudget from kept at before now → now ≤ before + budget (styled_evaluator (table walk.after)) root_surroundings root_surroundings (merge_of walk)
    within before now few =
        subst (λ own. now ≤ before + budget (styled_evaluator own) root_surroundings root_surroundings (merge_of walk)) walk.reads.table (few (merge_of walk) was_told stands.1.1)

    pub counted : (found : List (ℕ × Told)) → AreOfElements from kept at found → length found ≤ element_count (without_keys from.tree)
    counted found are = are (merge_of walk) was_told stands.1.1

    pub whole : (before now : ℕ) → IsWithinElements from kept at before now → now ≤ before + 4 * element_count (without_keys from.tree)
    whole before now few = few (merge_of walk) was_told stands.1.1
