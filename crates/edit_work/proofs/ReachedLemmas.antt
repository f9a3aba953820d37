-- The law of work where what an edit reaches goes and comes, from its lemmas.
use Rattle.std.proofs.Common.{◌≡◌, ◌≢◌, ◌+◌, ◌*◌, ◌≤◌, ◌||◌, ℕ, ℤ, Bool, true, false, List, None, refl, sym, ap, subst, ◌∙◌, arith}
use Rattle.std.specs.Prelude.{sum_by}
use Rattle.plain_types.specs.declared.box_id.BoxId.{BoxId}
use Rattle.plain_types.specs.declared.edit.Edit.{Edit}
use Rattle.plain_types.specs.declared.node.Node.{Node}
use Rattle.node_arena.specs.Edits.{edited_sheet}
use Rattle.box_eval.specs.Evaluation.{styled}
use Rattle.box_eval.specs.Starts.{no_starts}
use Rattle.generated_texts.specs.Documents.{agent_sheet, counter_styles, document_style}
use Rattle.generated_texts.specs.StyleElements.{author_sheet}
use Rattle.merged_walk.specs.Counts.{anew_count, come_count, gone_count, led_count, other_count, place_count}
use Rattle.merged_walk.specs.Evaluators.{weigh_elements}
use Rattle.merged_walk.specs.Laws.{Merges}
use Rattle.merged_walk.specs.Merges.{Merge, new_of, old_of}
use Rattle.merged_walk.proofs.CountLaws.{anew-within}
use Rattle.surroundings.specs.Laws.{AreItsInputs, OfEachDocument}
use Rattle.surroundings.proofs.InputLaws.{inputs-document}
use Rattle.surroundings.specs.StyledEvaluators.{root_surroundings, styled_evaluator}
use Rattle.surroundings.specs.StyledEvaluators.{is_element as is_styled_element}
use Rattle.edit_merge.specs.EditMerges.{edit_merge, is_element}
use Rattle.edit_merge.proofs.EditLaws.{edits_merge}
use Rattle.style_reach.specs.Laws.{Edits}
use Rattle.style_reach.specs.Reaches.{all_features}
use Rattle.style_reach.specs.declared.extent.Reach.TheVariants.{All}
use Rattle.style_reach.proofs.AuthorLaws.{sheets-stay}
use Rattle.styled_merge.specs.Laws.{HasShape, style_beside}
use Rattle.styled_merge.specs.Reached.{reached_merge}
use Rattle.styled_merge.specs.StyledMerges.{styled_merge}
use Rattle.styled_merge.proofs.EditCounts.{unturned-edit}
use Rattle.styled_merge.proofs.KeptLaws.{unturned-whole}
use Rattle.styled_merge.proofs.LawLemmas.{documents_style_merges, starts_are_their_own}
use Rattle.styled_merge.proofs.ShapeLaws.{has-shape}
use Rattle.edit_work.specs.Inputs.{differ_at, differs}
use Rattle.edit_work.specs.Laws.{Leads}
use Rattle.edit_work.specs.KeyedSources.{KeyedSource, author, inputs_with, own_starts, styled_with, table, weight}
use Rattle.edit_work.specs.ReachedLaws.{NodesReachedArePaid, PaysForReachedWalk, PaysForReachedWalks, ReachedMergesWith, reached_with}
use Rattle.edit_work.specs.Work.{around_places, differing, edit_reach, placed, walk_work}
use Rattle.edit_work.proofs.HandedInputs.{distinct-styled, none-turned, weigh-styled}
use Rattle.edit_work.proofs.LawLemmas.{has-its, heavy, others-differ}
use Rattle.edit_work.proofs.Points.{around-is, around_by, differing-few, placed-is, placed_by, walk-least}
use Rattle.edit_work.proofs.ReachedPays.{ArePaid, reached-paid}
use Rattle.edit_work.proofs.Sums.{other_weight}
use Rattle.edit_work.proofs.Touched.{counted}

-- the sum, in numbers
pays : (anew led other come gone places placed differing around work : ℕ) → anew ≤ led + other → 4 * places ≤ 20 + 2 * (placed + around) → (led + come + gone) ≤ placed + around
    → other ≤ differing → (placed + differing + around) ≤ work → (2 * ((9 * anew + 6 * come + 2 * places + 2) + 2 * led) + gone) ≤ 24 * (work + 1)
pays anew led other come gone places placed differing around work h1 h2 h3 h4 h5 = omega arith

or-left : (a b : Bool) → a ≡ true → (a || b) ≡ true
or-left true b h = refl
or-left false b h = absurd (cc h)

or-right : (a b : Bool) → b ≡ true → (a || b) ≡ true
or-right true b h = refl
or-right false b h = h

module _ (told : OfEachDocument AreItsInputs) (edit : Edit) (before after : KeyedSource) (leads : Leads edit before after) (other : edit_reach edit before after ≢ All) where
  edits : Edits edit before.tree after.tree
  edits = record { document = leads.done.before; allowed = leads.done.allowed; edited = leads.done.edited }

  table-stays : table before ≡ table after
  table-stays =
      sym (ap counter_styles (ap (λ sheet. author_sheet sheet after.tree) leads.sheet
      ∙ sheets-stay (all_features agent_sheet (author before)) edit before.tree after.tree before.sheet edits other))

  -- the merge without styles
  abbrev whole : Merge Node
  whole = reached_merge (all_features agent_sheet (author before)) edit before.tree after.tree

  -- with all starts 0 it is a merge of the two documents
  plain-merges : ReachedMergesWith edit before after no_starts no_starts
  plain-merges =
      let old = style_beside before.sheet before.tree in
      let new = λ (text : List ℕ). style_beside text after.tree in
      let merges = edits_merge edit before.tree after.tree leads.done in
      let same = starts_are_their_own (new (edited_sheet edit before.sheet)) no_starts whole in
      subst (λ (text : List ℕ). Merges (styled_merge old (new text) no_starts no_starts None whole) (styled old no_starts before.tree) (styled (new text) no_starts after.tree))
      (sym leads.sheet) (documents_style_merges edit before.tree after.tree edits merges before.sheet no_starts no_starts same)

  others-pay : (was_start start : BoxId → List ℕ → ℤ) → ((k : ℕ) → differ_at (inputs_with before was_start) (inputs_with after start) k ≡ true → differs before after k ≡ true)
      → ReachedMergesWith edit before after was_start start
      → other_count (styled_evaluator (table after)) root_surroundings root_surroundings (reached_with edit before after was_start start) ≤ sum_by (weight before after) (differing edit before after)
  others-pay was_start start too forests =
      let w = weight before after in
      let old = document_style (author before) before.tree in
      let new = document_style (author after) after.tree in
      let m = reached_with edit before after was_start start in
      let merges = edits_merge edit before.tree after.tree leads.done in
      let turned = none-turned old new was_start start whole None (unturned-whole edit before.tree after.tree edits merges (all_features agent_sheet (author before))) in
      let was_distinct = distinct-styled old was_start before.tree None leads.done.before.distinct in
      let distinct = distinct-styled new start after.tree None leads.done.after.distinct in
      let hands = has-its (table after) (table after) (styled_with after start) (new_of m) refl forests.new distinct (told (table after) (styled_with after start) distinct) in
      let handed = has-its (table after) (table before) (styled_with before was_start) (old_of m) table-stays forests.old was_distinct (told (table before) (styled_with before was_start) was_distinct) in
      let others = others-differ (table after) m w (heavy before after) (differs before after) (inputs_with before was_start) (inputs_with after start) turned hands handed too in
      let f = other_weight w (differs before after) in
      let weighed : weigh_elements is_styled_element f (new_of m) ≡ weigh_elements is_element f after.tree =
      ap (weigh_elements is_styled_element f) forests.new ∙ weigh-styled new start f after.tree None in
      omega (arith, others, weighed, differing-few edit before after w)

  pub paid : ArePaid (weight before after) (heavy before after) whole (placed edit before after) (around_places edit before after)
  paid =
      let w = weight before after in
      let o = edit_reach edit before after in
      let merges = edits_merge edit before.tree after.tree leads.done in
      let its =
      reached-paid w (heavy before after) edit before after o other (edit_merge edit before.tree after.tree) (unturned-edit edit before.tree after.tree) merges leads.done.before leads.done.after
      (counted w (heavy before after) edit before.tree after.tree leads.done) in
      let at : sum_by w (placed edit before after) ≡ sum_by w (placed_by edit before after o) = ap (sum_by w) (placed-is edit before after o refl) in
      let around : sum_by w (around_places edit before after) ≡ sum_by w (around_by edit before after o) = ap (sum_by w) (around-is edit before after o refl) in
      record { few = omega (arith, its.few, at, around); places = omega (arith, its.places, at, around) }

  pays-walk : (was_start start : BoxId → List ℕ → ℤ) → ((k : ℕ) → differ_at (inputs_with before was_start) (inputs_with after start) k ≡ true → differs before after k ≡ true)
      → ReachedMergesWith edit before after was_start start → PaysForReachedWalk edit before after was_start start
  pays-walk was_start start too forests =
      let w = weight before after in
      let e = styled_evaluator (table after) in
      let m = reached_with edit before after was_start start in
      let shape : HasShape m whole = has-shape (document_style (author before) before.tree) (document_style (author after) after.tree) was_start start None whole in
      pays (anew_count e root_surroundings root_surroundings m) (led_count m) (other_count e root_surroundings root_surroundings m) (come_count is_styled_element m) (gone_count is_styled_element m) (place_count m)
      (sum_by w (placed edit before after)) (sum_by w (differing edit before after)) (sum_by w (around_places edit before after))
      (walk_work edit before after)
      (anew-within e m root_surroundings root_surroundings)
      (omega (arith, shape.places, paid.places))
      (omega (arith, shape.led, shape.come, shape.gone, paid.few))
      (others-pay was_start start too forests)
      (walk-least edit before after)

  pub pays-walks : PaysForReachedWalks edit before after
  pays-walks =
      let plain = λ (k : ℕ). differ_at (inputs_with before no_starts) (inputs_with after no_starts) k in
      let started = λ (k : ℕ). differ_at (inputs_with before (own_starts before)) (inputs_with after (own_starts after)) k in
      record {
        plain = pays-walk no_starts no_starts (λ k. or-left (plain k) (started k)) plain-merges;
        started = pays-walk (own_starts before) (own_starts after) (λ k. or-right (plain k) (started k));
        gone = omega (arith, paid.few, walk-least edit before after);
      }

pub nodes_reached_are_paid : NodesReachedArePaid
nodes_reached_are_paid edit before after leads other = pays-walks inputs-document edit before after leads other
