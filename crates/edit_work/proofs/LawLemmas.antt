-- The laws, from their lemmas.
use Rattle.std.proofs.Common.{◌≡◌, ◌+◌, ◌*◌, ◌≤◌, ◌||◌, ℕ, ℤ, Bool, true, false, List, Option, Some, None, refl, sym, ap, subst, ◌∙◌, arith}
use Rattle.std.specs.Prelude.{sum_by}
use Rattle.forest.specs.Forest.{Forest, Empty, Tree}
use Rattle.forest.specs.Keys.{Keyed, HasDistinctKeys}
use Rattle.plain_types.specs.declared.box_id.BoxId.{BoxId}
use Rattle.plain_types.specs.declared.counter_style.CounterStyle.{CounterStyle}
use Rattle.plain_types.specs.declared.edit.Edit.{Edit}
use Rattle.plain_types.specs.declared.node.Node.{Node}
use Rattle.node_arena.specs.Document.{IsKeyedDocument}
use Rattle.node_arena.specs.Edits.{edited_sheet}
use Rattle.box_eval.specs.Evaluation.{StyledNode, all_inputs, style_within, styled, styled_trees}
use Rattle.box_eval.specs.Starts.{no_starts}
use Rattle.box_eval.specs.declared.inputs.Inputs.{Inputs}
use Rattle.generated_texts.specs.Documents.{agent_sheet, counter_styles, document_style}
use Rattle.generated_texts.specs.StyleElements.{author_sheet}
use Rattle.merged_walk.specs.Counts.{anew_count, budget, come_count, gone_count, led_count, other_count, place_count}
use Rattle.merged_walk.specs.Evaluators.{count_of_elements, inputs, weigh_elements}
use Rattle.merged_walk.specs.Laws.{Merges}
use Rattle.merged_walk.specs.Merges.{Merge, all_come, new_of, old_of}
use Rattle.merged_walk.proofs.CountLaws.{anew-within}
use Rattle.merged_walk.proofs.LawLemmas.{whole_documents_cost}
use Rattle.surroundings.specs.declared.surroundings.Surroundings.{Surroundings}
use Rattle.surroundings.specs.declared.told.Told.{Told}
use Rattle.surroundings.specs.Laws.{AreItsInputs, OfEachDocument}
use Rattle.surroundings.specs.Surroundings.{is_same}
use Rattle.surroundings.proofs.InputLaws.{inputs-document}
use Rattle.surroundings.specs.StyledEvaluators.{root_surroundings, styled_evaluator}
use Rattle.surroundings.specs.StyledEvaluators.{is_element as is_styled_element}
use Rattle.edit_merge.specs.EditMerges.{edit_merge, is_element}
use Rattle.edit_merge.proofs.EditLaws.{edits_merge}
use Rattle.edit_merge.proofs.PlaceLaws.{one-root}
use Rattle.style_reach.specs.Laws.{Edits}
use Rattle.style_reach.specs.Reaches.{all_features}
use Rattle.style_reach.specs.declared.extent.Reach.{Reach}
use Rattle.style_reach.specs.declared.extent.Reach.TheVariants.{Own, All}
use Rattle.style_reach.proofs.AuthorLaws.{sheets-stay}
use Rattle.styled_merge.specs.Laws.{HasShape, style_beside}
use Rattle.styled_merge.specs.Stays.{IsUnturned}
use Rattle.styled_merge.specs.StyledMerges.{Starting, Styling, styled_by, styled_merge}
use Rattle.styled_merge.proofs.KeptLaws.{unturned-whole}
use Rattle.styled_merge.proofs.LawLemmas.{own_reaches_nothing, own_styles_documents, starts_are_their_own}
use Rattle.styled_merge.proofs.ShapeLaws.{has-shape}
use Rattle.edit_work.specs.Inputs.{differ_at, differs, inputs_at}
use Rattle.edit_work.specs.Laws.{Leads, MergesWith, OwnReachIsPaid, PaysForWalk, PaysForWalks, TestTellsInputs, WholeReachIsPaid, merge_with}
use Rattle.edit_work.specs.KeyedSources.{KeyedSource, author, inputs_with, own_starts, styled_with, table, weight}
use Rattle.edit_work.specs.Work.{around_places, differing, edit_reach, placed, walk_work, work}
use Rattle.edit_work.proofs.Handed.{Has, HasNoTurned, others-within}
use Rattle.edit_work.proofs.HandedInputs.{distinct-styled, handed_at, has-inputs, none-turned, other-inputs, styled-hands, weigh-styled}
use Rattle.edit_work.proofs.Points.{all-placed, around-own, differing-few, placed-own, walk-least, walk-work-within}
use Rattle.edit_work.proofs.SameInputs.{inputs-Decides}
use Rattle.edit_work.proofs.Sums.{other_weight}
use Rattle.edit_work.proofs.Touched.{AreCounted, counted, own_ancestors, own_placed}

pub test_tells_inputs : TestTellsInputs
test_tells_inputs one other = inputs-Decides one other

-- the sum, in numbers
pays : (anew led other come gone places at above differing around work : ℕ) → anew ≤ led + other → places ≤ 2 → (led + come + gone) ≤ at + above → other ≤ differing → above ≤ around
    → (at + differing + around) ≤ work → (2 * ((9 * anew + 6 * come + 2 * places + 2) + 2 * led) + gone) ≤ 24 * (work + 1)
pays anew led other come gone places at above differing around work h1 h2 h3 h4 h5 h6 = omega arith

pub heavy : (before after : KeyedSource) (k : ℕ) → 1 ≤ weight before after k
heavy before after k = omega arith

-- An edit that reaches nothing else leaves the sheet of the author as it was.
module _ (edit : Edit) (before after : KeyedSource) (leads : Leads edit before after) (own : edit_reach edit before after ≡ Own) where
  edits : Edits edit before.tree after.tree
  edits = record { document = leads.done.before; allowed = leads.done.allowed; edited = leads.done.edited }

  not-all : (reach : Reach) → reach ≡ Own → reach ≡ All → ⊥
  not-all reach own all = let never : Own ≡ All = sym own ∙ all in absurd (cc)

  author-stays : author after ≡ author before
  author-stays =
      ap (λ sheet. author_sheet sheet after.tree) leads.sheet
      ∙ sheets-stay (all_features agent_sheet (author before)) edit before.tree after.tree before.sheet edits (not-all (edit_reach edit before after) own)

  -- its merge turns no node
  pub unturned : IsUnturned (edit_merge edit before.tree after.tree)
  unturned =
      let looks = all_features agent_sheet (author before) in
      let merges = edits_merge edit before.tree after.tree leads.done in
      subst IsUnturned (own_reaches_nothing edit before.tree after.tree edits merges looks own) (unturned-whole edit before.tree after.tree edits merges looks)

  pub table-stays : table before ≡ table after
  table-stays = ap counter_styles (sym author-stays)

  -- with all starts 0 it is a merge of the two documents
  pub plain-merges : MergesWith edit before after no_starts no_starts
  plain-merges =
      let doc = edit_merge edit before.tree after.tree in
      let old = style_beside before.sheet before.tree in
      let new = λ (text : List ℕ). style_beside text after.tree in
      let merges = edits_merge edit before.tree after.tree leads.done in
      let same = starts_are_their_own (new (edited_sheet edit before.sheet)) no_starts doc in
      subst (λ (text : List ℕ). Merges (styled_merge old (new text) no_starts no_starts None doc) (styled old no_starts before.tree) (styled (new text) no_starts after.tree))
      (sym leads.sheet) (own_styles_documents edit before.tree after.tree edits merges before.sheet own no_starts no_starts same)

-- the elements that stay and are handed something else have other inputs
pub others-differ : (t : List CounterStyle) (m : Merge StyledNode) (w : ℕ → ℕ) (heavy : (k : ℕ) → 1 ≤ w k) (differs : ℕ → Bool) (before now : List Inputs) → HasNoTurned m
    → Has (handed_at now) (inputs (styled_evaluator t) root_surroundings (new_of m)) → Has (handed_at before) (inputs (styled_evaluator t) root_surroundings (old_of m))
    → ((k : ℕ) → differ_at before now k ≡ true → differs k ≡ true) → other_count (styled_evaluator t) root_surroundings root_surroundings m ≤ weigh_elements is_styled_element (other_weight w differs) (new_of m)
others-differ t m w heavy differs before now turned hands handed too =
    let other : (k : ℕ) (a b : Surroundings) → handed_at now k ≡ Some a → handed_at before k ≡ Some b → is_same a b ≡ false → differs k ≡ true =
    λ k a b at was is. too k (other-inputs (inputs_at before k) (inputs_at now k) a b at was is) in
    others-within (styled_evaluator t) (styled-hands t) w heavy differs (handed_at before) (handed_at now) other m turned root_surroundings root_surroundings refl hands handed

-- what they are handed is told by their inputs, under any table that is the document's
pub has-its : (t own : List CounterStyle) (g h : Forest (Keyed StyledNode)) → own ≡ t → h ≡ g → HasDistinctKeys g → AreItsInputs own g
    → Has (handed_at (all_inputs own g)) (inputs (styled_evaluator t) root_surroundings h)
has-its t own g h same is distinct its =
    subst (λ t. Has (handed_at (all_inputs own g)) (inputs (styled_evaluator t) root_surroundings h)) same
    (subst (λ h. Has (handed_at (all_inputs own g)) (inputs (styled_evaluator own) root_surroundings h)) (sym is) (has-inputs own g distinct its))

module _ (told : OfEachDocument AreItsInputs) (edit : Edit) (before after : KeyedSource) (leads : Leads edit before after) (own : edit_reach edit before after ≡ Own) where
  others-pay : (was_start start : BoxId → List ℕ → ℤ) → ((k : ℕ) → differ_at (inputs_with before was_start) (inputs_with after start) k ≡ true → differs before after k ≡ true)
      → MergesWith edit before after was_start start
      → other_count (styled_evaluator (table after)) root_surroundings root_surroundings (merge_with edit before after was_start start) ≤ sum_by (weight before after) (differing edit before after)
  others-pay was_start start too forests =
      let w = weight before after in
      let old = document_style (author before) before.tree in
      let new = document_style (author after) after.tree in
      let m = merge_with edit before after was_start start in
      let turned = none-turned old new was_start start (edit_merge edit before.tree after.tree) None (unturned edit before after leads own) in
      let was_distinct = distinct-styled old was_start before.tree None leads.done.before.distinct in
      let distinct = distinct-styled new start after.tree None leads.done.after.distinct in
      let hands = has-its (table after) (table after) (styled_with after start) (new_of m) refl forests.new distinct (told (table after) (styled_with after start) distinct) in
      let handed = has-its (table after) (table before) (styled_with before was_start) (old_of m) (table-stays edit before after leads own) forests.old was_distinct (told (table before) (styled_with before was_start) was_distinct) in
      let others = others-differ (table after) m w (heavy before after) (differs before after) (inputs_with before was_start) (inputs_with after start) turned hands handed too in
      let f = other_weight w (differs before after) in
      let weighed : weigh_elements is_styled_element f (new_of m) ≡ weigh_elements is_element f after.tree =
      ap (weigh_elements is_styled_element f) forests.new ∙ weigh-styled new start f after.tree None in
      omega (arith, others, weighed, differing-few edit before after w)

  pays-walk : (was_start start : BoxId → List ℕ → ℤ) → ((k : ℕ) → differ_at (inputs_with before was_start) (inputs_with after start) k ≡ true → differs before after k ≡ true)
      → MergesWith edit before after was_start start → PaysForWalk edit before after was_start start
  pays-walk was_start start too forests =
      let w = weight before after in
      let e = styled_evaluator (table after) in
      let m = merge_with edit before after was_start start in
      let doc = edit_merge edit before.tree after.tree in
      let shape : HasShape m doc = has-shape (document_style (author before) before.tree) (document_style (author after) after.tree) was_start start None doc in
      let count : AreCounted w doc edit before.tree after.tree = counted w (heavy before after) edit before.tree after.tree leads.done in
      let at : sum_by w (placed edit before after) ≡ sum_by w (own_placed edit before.tree after.tree) = ap (sum_by w) (placed-own edit before after own) in
      pays (anew_count e root_surroundings root_surroundings m) (led_count m) (other_count e root_surroundings root_surroundings m) (come_count is_styled_element m) (gone_count is_styled_element m) (place_count m)
      (sum_by w (placed edit before after)) (sum_by w (own_ancestors edit before.tree after.tree)) (sum_by w (differing edit before after)) (sum_by w (around_places edit before after))
      (walk_work edit before after)
      (anew-within e m root_surroundings root_surroundings)
      (omega (arith, shape.places, count.places))
      (omega (arith, shape.led, shape.come, shape.gone, count.few, at))
      (others-pay was_start start too forests)
      (around-own edit before after w own)
      (walk-least edit before after)

  or-left : (a b : Bool) → a ≡ true → (a || b) ≡ true
  or-left true b h = refl
  or-left false b h = absurd (cc h)

  or-right : (a b : Bool) → b ≡ true → (a || b) ≡ true
  or-right true b h = refl
  or-right false b h = h

  pub pays-walks : PaysForWalks edit before after
  pays-walks =
      let plain = λ (k : ℕ). differ_at (inputs_with before no_starts) (inputs_with after no_starts) k in
      let started = λ (k : ℕ). differ_at (inputs_with before (own_starts before)) (inputs_with after (own_starts after)) k in
      record {
        plain = pays-walk no_starts no_starts (λ k. or-left (plain k) (started k)) (plain-merges edit before after leads own);
        started = pays-walk (own_starts before) (own_starts after) (λ k. or-right (plain k) (started k));
      }

pub own_reach_is_paid : OwnReachIsPaid
own_reach_is_paid edit before after leads own = pays-walks inputs-document edit before after leads own

-- how much the walk costs to which a document comes
module _ (table : List CounterStyle) (style : Styling) (start : Starting) where
  abbrev Costs : Forest (Keyed Node) → Type 0
  Costs tree = budget (styled_evaluator table) root_surroundings root_surroundings (all_come (styled style start tree)) ≡ 6 * count_of_elements is_element tree + 4

  one-costs : (n : Keyed Node) (c : Forest (Keyed Node)) → Costs (Tree n c Empty)
  one-costs n c =
      let root = styled_by style start None n in
      let children = styled_trees style start (style_within style start None n.key n.label) c in
      let cost = whole_documents_cost StyledNode Told (Option Surroundings) (styled_evaluator table) root_surroundings root_surroundings root children in
      let weighed = weigh-styled style start (λ _. 1) (Tree n c Empty) None in
      omega (arith, cost, weighed)

  whole-costs : (tree : Forest (Keyed Node)) → IsKeyedDocument tree → Costs tree
  whole-costs tree document = let root = one-root tree document.is_tree.one in subst Costs (sym root.2) (one-costs root.0 root.1)

pub whole_reach_is_paid : WholeReachIsPaid
whole_reach_is_paid edit before after leads all =
    let w = weight before after in
    let few = all-placed w (heavy before after) edit before after leads.done.before leads.done.after all in
    let least = walk-least edit before after in
    let within = walk-work-within edit before after in
    let cost = whole-costs (table after) (document_style (author after) after.tree) (own_starts after) after.tree leads.done.after in
    record { touched = omega (arith, few, least, within); paid = omega (arith, few, least, within, cost); paid_by_element = omega (arith, few, least, within) }
