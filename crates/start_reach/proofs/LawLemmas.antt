-- The laws, from their lemmas.
use Rattle.std.proofs.Common.{◌≡◌, ◌≢◌, sym, ap, subst, ◌∙◌, None, List, ℕ}
use Rattle.plain_types.specs.declared.edit.Edit.{Edit}
use Rattle.plain_types.specs.declared.node.Node.{Node}
use Rattle.node_arena.specs.Edits.{edited_sheet}
use Rattle.box_eval.specs.Evaluation.{styled, styled_trees}
use Rattle.box_eval.specs.Starts.{document_starts, no_starts}
use Rattle.generated_texts.specs.Documents.{agent_sheet, counter_styles, document_style}
use Rattle.generated_texts.specs.StyleElements.{author_sheet}
use Rattle.merged_walk.specs.Laws.{Merges}
use Rattle.merged_walk.specs.Merges.{Merge}
use Rattle.surroundings.specs.StyledEvaluators.{root_surroundings}
use Rattle.edit_merge.proofs.EditLaws.{edits_merge}
use Rattle.edit_merge.specs.EditMerges.{edit_merge, is_element}
use Rattle.style_reach.specs.Laws.{Edits}
use Rattle.style_reach.specs.Reaches.{all_features}
use Rattle.style_reach.specs.declared.extent.Reach.TheVariants.{All as Everywhere}
use Rattle.style_reach.proofs.AuthorLaws.{sheets-stay}
use Rattle.styled_merge.specs.Laws.{style_beside}
use Rattle.styled_merge.specs.Stays.{HasSameBoxStarts, HasSameStyle, OfEachKept}
use Rattle.styled_merge.specs.StyledMerges.{styled_merge}
use Rattle.styled_merge.proofs.KeptCounts.{each}
use Rattle.styled_merge.proofs.KeptLaws.{new-whole, old-whole, same-document_style, unturned-whole}
use Rattle.styled_merge.proofs.LawLemmas.{documents_style_merges, starts_are_their_own}
use Rattle.styled_merge.proofs.ShapeLaws.{has-shape}
use Rattle.styled_merge.proofs.StopLemmas.{reaches_are_walkable}
use Rattle.styled_merge.proofs.StyledForests.{old-styled}
use Rattle.edit_work.specs.KeyedSources.{KeyedSource, author, is_among, own_starts, styled_with, table}
use Rattle.edit_work.specs.Laws.{Leads}
use Rattle.edit_work.specs.ReachedLaws.{reached_with}
use Rattle.edit_work.specs.Work.{edit_reach}
use Rattle.start_reach.specs.CounterChanges.{OfEachSkipped}
use Rattle.start_reach.specs.Laws.{EditsKeepStarts, SecondMergesAreStarted, SecondMergesAreWalkable, TurnedKeepForests}
use Rattle.start_reach.specs.SecondMerges.{first_merge, turned_merge}
use Rattle.start_reach.specs.TurnedElements.{with_ways_to}
use Rattle.start_reach.proofs.CounterLaws.{starts_stay}
use Rattle.start_reach.proofs.SkipLaws.{skipped_starts_stay}
use Rattle.start_reach.proofs.StartedLaws.{new-started}
use Rattle.start_reach.proofs.TurnedLaws.{leaves-turned, led-turned, new-turned, old-turned}
use Rattle.start_reach.proofs.WayLaws.{all-turned}

pub turned_keep_forests : TurnedKeepForests
turned_keep_forests is_turned merge old new merges =
    record { old = old-turned is_element is_turned merge ∙ merges.old; new = new-turned is_element is_turned merge ∙ merges.new }

module _ (edit : Edit) (before after : KeyedSource) (leads : Leads edit before after) where
  pub edits : Edits edit before.tree after.tree
  edits = record { document = leads.done.before; allowed = leads.done.allowed; edited = leads.done.edited }

  pub merges : Merges (edit_merge edit before.tree after.tree) before.tree after.tree
  merges = edits_merge edit before.tree after.tree leads.done

  -- an edit that does not reach everywhere leaves the sheet of the author as it was
  pub author-stays : edit_reach edit before after ≢ Everywhere → author after ≡ author before
  author-stays other =
      ap (λ sheet. author_sheet sheet after.tree) leads.sheet
      ∙ sheets-stay (all_features agent_sheet (author before)) edit before.tree after.tree before.sheet edits other

  abbrev first : Merge Node
  first = first_merge edit before after

  -- with all starts 0 it is a merge of the two documents
  pub plain-merges :
      Merges (styled_merge (document_style (author before) before.tree) (document_style (author after) after.tree) no_starts no_starts None first)
      (styled_with before no_starts) (styled_with after no_starts)
  plain-merges =
      let old = style_beside before.sheet before.tree in
      let new = λ (text : List ℕ). style_beside text after.tree in
      let same = starts_are_their_own (new (edited_sheet edit before.sheet)) no_starts first in
      subst (λ (text : List ℕ). Merges (styled_merge old (new text) no_starts no_starts None first) (styled old no_starts before.tree) (styled (new text) no_starts after.tree))
      (sym leads.sheet) (documents_style_merges edit before.tree after.tree edits merges before.sheet no_starts no_starts same)

  pub same-styles : OfEachKept (HasSameStyle (document_style (author before) before.tree) (document_style (author after) after.tree)) first
  same-styles =
      let old = style_beside before.sheet before.tree in
      subst (λ (text : List ℕ). OfEachKept (HasSameStyle old (style_beside text after.tree)) first) (sym leads.sheet)
      (each (HasSameStyle old (style_beside (edited_sheet edit before.sheet) after.tree)) first (same-document_style edit before.tree after.tree edits merges before.sheet))

pub edits_keep_starts : EditsKeepStarts
edits_keep_starts edit before after leads other =
    let old = document_style (author before) before.tree in
    let new = document_style (author after) after.tree in
    let tables = ap counter_styles (author-stays edit before after leads other) in
    let merge = reached_with edit before after no_starts no_starts in
    let both = plain-merges edit before after leads in
    let was_distinct = leads.done.before.distinct in
    let distinct = leads.done.after.distinct in
    record {
      alone =
          λ counter alone.
          starts_stay (table after) old new before.tree after.tree merge was_distinct distinct both counter alone
          ∙ ap (λ own. document_starts own old before.tree counter.creator counter.name) tables;
      skipped =
          subst (λ own. OfEachSkipped (table after) (HasSameBoxStarts (document_starts own old before.tree) (own_starts after)) root_surroundings root_surroundings merge) tables
          (skipped_starts_stay (table after) old new before.tree after.tree merge was_distinct distinct both);
    }

pub second_merges_are_started : SecondMergesAreStarted
second_merges_are_started edit before after leads is_turned was_start start same =
    let old = document_style (author before) before.tree in
    let new = document_style (author after) after.tree in
    let looks = all_features agent_sheet (author before) in
    let its = edits edit before after leads in
    let both = merges edit before after leads in
    let first = first_merge edit before after in
    record {
      old =
          old-styled old new was_start start (turned_merge edit before after is_turned) None
          ∙ ap (styled_trees old was_start None) (old-turned is_element is_turned first ∙ old-whole edit before.tree after.tree its both looks);
      new =
          new-started old new was_start start is_turned first None (unturned-whole edit before.tree after.tree its both looks) (same-styles edit before after leads) same
          ∙ ap (styled_trees new start None) (new-whole edit before.tree after.tree its both looks);
    }

pub second_merges_are_walkable : SecondMergesAreWalkable
second_merges_are_walkable edit before after leads keys they was_start start =
    let old = document_style (author before) before.tree in
    let new = document_style (author after) after.tree in
    let looks = all_features agent_sheet (author before) in
    let its = edits edit before after leads in
    let both = merges edit before after leads in
    let first = first_merge edit before after in
    let plain = reaches_are_walkable edit before.tree after.tree leads.done looks in
    let turned = turned_merge edit before after (is_among keys) in
    let shape = has-shape old new was_start start None turned in
    record {
      stops =
          ap (with_ways_to after.tree keys) plain.stops
          ∙ sym (all-turned after.tree leads.done.after.distinct is_element keys first (new-whole edit before.tree after.tree its both looks) plain.leaves they)
          ∙ sym (shape.stops 0);
      leaves = shape.leaves (leaves-turned is_element (is_among keys) first plain.leaves);
      led = shape.all_led (led-turned is_element (is_among keys) first plain.led);
    }
