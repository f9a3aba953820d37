-- The laws, from their lemmas.
use Rattle.std.proofs.Common.{◌≡◌, ◌≢◌, ◌==◌, ◌≤◌, ◌||◌, ◌++◌, ◌∙◌, ◌⊎◌, ℕ, true, false, List, [], ◌∷◌, Option, Some, None, refl, sym, ap, subst, inl, inr, ◌+◌, ◌*◌, arith}
use Rattle.std.specs.Prelude.{All, Contains, filter, flat_map, option_map, sum_by}
use Rattle.std.proofs.lemmas.Bool.{cases_Bool, or_cases, or_left, or_right}
use Rattle.std.proofs.lemmas.List.Elements.{All-contains, All-contains_itself, All-weaker}
use Rattle.forest.specs.Forest.{Forest}
use Rattle.forest.specs.Keys.{Keyed, HasDistinctKeys}
use Rattle.plain_types.specs.declared.edit.Edit.{Edit}
use Rattle.plain_types.specs.declared.node.Node.{Node}
use Rattle.plain_types.specs.declared.sheet.Features.{Features}
use Rattle.box_eval.specs.declared.element_record.ElementRecord.{ElementRecord}
use Rattle.box_eval.specs.Evaluation.{StyledNode}
use Rattle.box_eval.specs.Starts.{no_starts}
use Rattle.generated_texts.specs.Documents.{agent_sheet, counter_styles, document_style}
use Rattle.generated_texts.specs.References.{kept_at}
use Rattle.merged_walk.specs.Counts.{anew_count, come_count, gone_count, led_count, place_count}
use Rattle.merged_walk.specs.Entries.{Holds}
use Rattle.merged_walk.specs.Evaluators.{inputs, told_all}
use Rattle.merged_walk.specs.Laws.{Merges}
use Rattle.merged_walk.specs.Merges.{Merge, new_of, old_of}
use Rattle.merged_walk.proofs.CountLaws.{anew-within}
use Rattle.surroundings.specs.declared.surroundings.Surroundings.{Surroundings}
use Rattle.surroundings.specs.declared.told.Told.{Told}
use Rattle.surroundings.specs.Surroundings.{is_same, surroundings_in}
use Rattle.surroundings.specs.StyledEvaluators.{root_surroundings, styled_evaluator}
use Rattle.surroundings.specs.StyledEvaluators.{is_element as is_styled_element}
use Rattle.surroundings.proofs.InputLaws.{inputs-document}
use Rattle.document_walk.proofs.StyledKeys.{styled_distinct}
use Rattle.style_reach.specs.Reaches.{all_features}
use Rattle.style_reach.specs.declared.extent.Reach.TheVariants.{All as Everywhere}
use Rattle.styled_merge.specs.Stays.{HasSameBoxStarts, IsUnturned}
use Rattle.styled_merge.specs.StyledMerges.{Starting, Styling}
use Rattle.styled_merge.specs.Laws.{HasShape}
use Rattle.styled_merge.proofs.KeptLaws.{new-whole, unturned-whole}
use Rattle.styled_merge.proofs.ShapeLaws.{has-shape}
use Rattle.styled_merge.proofs.StopLemmas.{reaches_are_walkable}
use Rattle.edit_work.specs.Inputs.{differ_at, differs, inputs_at}
use Rattle.edit_work.specs.KeyedSources.{KeyedSource, author, child_elements, either, elements_in, inputs_with, is_among, own_starts, styled_with, table, weight}
use Rattle.edit_work.specs.Laws.{Leads}
use Rattle.edit_work.specs.Work.{around_places, differing, edit_reach, in_scopes, placed, walk_work, work}
use Rattle.edit_work.proofs.LawLemmas.{has-its, heavy}
use Rattle.reference_reach.specs.ChangedTargets.{Evaluated}
use Rattle.reference_reach.specs.Laws.{evaluated, other_points}
use Rattle.reference_reach.specs.MergedNodes.{entered_elements}
use Rattle.reference_reach.specs.ToldLaws.{HasChangesInPoints, keys_of, told_of}
use Rattle.reference_reach.proofs.LawLemmas.{entered_are_placed}
use Rattle.start_reach.specs.Laws.{AreTurned, plain_merge, started_merge}
use Rattle.start_reach.specs.SecondMerges.{first_merge, turned_merge}
use Rattle.start_reach.proofs.LawLemmas.{author-stays, edits, edits_keep_starts, merges, plain-merges, same-styles, second_merges_are_started}
use Rattle.start_reach.proofs.WorkLemmas.{places_are_paid, second_walks_are_few}
use Rattle.kept_elements.specs.RenewalSteps.{renewal_weight}
use Rattle.kept_elements.specs.Renewals.{evaluated_as}
use Rattle.kept_elements.proofs.ChangeLemmas.{some-kept, some_of}
use Rattle.kept_elements.proofs.KeptTold.{left_among, right_among}
use Rattle.kept_elements.proofs.KeyWeights.{among-filter}
use Rattle.kept_elements.proofs.PaidLemmas.{renewal_is_paid}
use Rattle.kept_elements.proofs.RenewalLemmas.{kept_there, once_there}
use Rattle.kept_elements.proofs.RenewedLemmas.{caught_there}
use Rattle.kept_elements.proofs.StepLemmas.{keys_told}
use Rattle.kept_elements.proofs.ToldLemmas.{said_is, told_once}
use Rattle.started_work.specs.Laws.{StartedChangesAreTold, StartedEditsArePaid, StartedNewsArePaid, TurnedEnterPoints, walk_budget}
use Rattle.started_work.proofs.EnteredLemmas.{OtherIn, entered-turned}
use Rattle.started_work.proofs.HandedLemmas.{Has, either-part, listed, other-handed, same-handed}
use Rattle.started_work.proofs.SumLemmas.{differing-few, others, others-few, pays, walk-least, walk-within}
use Rattle.started_work.proofs.ToldLemmas.{all-held, steady-turned, told-listed}

-- Points of an edit's work.

in-each : (others : ℕ → List ℕ) (k : ℕ) (xs : List ℕ) → is_among xs k ≡ true → is_among (flat_map (λ x. x ∷ others x) xs) k ≡ true
in-each others k [] h = h
in-each others k (x ∷ xs) h = elim (or_cases (x == k) (is_among xs k) h) [
  | inl here ↦ left_among k (x ∷ others x) (flat_map (λ x. x ∷ others x) xs) (ap (λ b. b || is_among (others x) k) here)
  | inr later ↦ right_among k (x ∷ others x) (flat_map (λ x. x ∷ others x) xs) (in-each others k xs later)
]

module _ (edit : Edit) (before after : KeyedSource) where
  in-differing : (k : ℕ) → is_among (elements_in after.tree) k ≡ true → differs before after k ≡ true → is_among (differing edit before after) k ≡ true
  unfolding differing
  in-differing k element is =
      in-each (λ x. either (child_elements before.tree x) (child_elements after.tree x)) k (filter (differs before after) (elements_in after.tree))
      (among-filter (differs before after) k is (elements_in after.tree) element)

  abbrev rest_of_points : List ℕ
  rest_of_points = in_scopes edit before after ++ around_places edit before after

  -- an element that differs is under one
  differing-points : (k : ℕ) → is_among (elements_in after.tree) k ≡ true → differs before after k ≡ true → is_among (other_points edit before after) k ≡ true
  differing-points k element is =
      right_among k (placed edit before after) (differing edit before after ++ rest_of_points) (left_among k (differing edit before after) rest_of_points (in-differing k element is))

  -- so is what is placed or around places
  placed-points : (k : ℕ) → is_among (placed edit before after ++ around_places edit before after) k ≡ true → is_among (other_points edit before after) k ≡ true
  placed-points k there = elim (either-part k (placed edit before after) (around_places edit before after) there) [
    | inl at ↦ left_among k (placed edit before after) (differing edit before after ++ rest_of_points) at
    | inr around ↦
        right_among k (placed edit before after) (differing edit before after ++ rest_of_points)
        (right_among k (differing edit before after) rest_of_points (right_among k (in_scopes edit before after) (around_places edit before after) around))
  ]

-- What is told of a document.

-- each element once, so it stands under its key
told-holds : (source : KeyedSource) → HasDistinctKeys source.tree → Holds (kept_at (told_of source)) (told_of source)
told-holds source distinct =
    All-weaker (Contains (told_of source)) (λ (x : ℕ × Told). kept_at (told_of source) x.0 ≡ Some x.1)
    (λ x there. once_there (told_of source) (told_once (author source) source.tree distinct) x there) (told_of source) (All-contains_itself (told_of source))

-- and it says the evaluation of the document
told-so : (source : KeyedSource) → HasDistinctKeys source.tree → evaluated source ≡ evaluated_as source.tree (told_of source)
told-so source distinct = ap (λ (said : List (ℕ × ElementRecord)). record { tree = source.tree; said = said }) (sym (said_is (author source) source.tree distinct))

module _ (edit : Edit) (before after : KeyedSource) (leads : Leads edit before after) (somewhere : edit_reach edit before after ≢ Everywhere) where
  abbrev first : Merge Node
  first = first_merge edit before after

  abbrev looks : Features
  looks = all_features agent_sheet (author before)

  abbrev old : Styling
  old = document_style (author before) before.tree

  abbrev new : Styling
  new = document_style (author after) after.tree

  new-first : new_of first ≡ after.tree
  new-first = new-whole edit before.tree after.tree (edits edit before after leads) (merges edit before after leads) looks

  unturned : IsUnturned first
  unturned = unturned-whole edit before.tree after.tree (edits edit before after leads) (merges edit before after leads) looks

  table-stays : table before ≡ table after
  table-stays = ap counter_styles (sym (author-stays edit before after leads somewhere))

  -- what elements are handed, by their inputs
  abbrev handed : KeyedSource → Starting → ℕ → Option Surroundings
  handed source start k = option_map surroundings_in (inputs_at (inputs_with source start) k)

  has-now : (start : Starting) (h : Forest (Keyed StyledNode)) → h ≡ styled_with after start → Has (handed after start) (inputs (styled_evaluator (table after)) root_surroundings h)
  has-now start h is =
      let distinct = styled_distinct new start after.tree None leads.done.after.distinct in
      has-its (table after) (table after) (styled_with after start) h refl is distinct (inputs-document (table after) (styled_with after start) distinct)

  has-before : (start : Starting) (h : Forest (Keyed StyledNode)) → h ≡ styled_with before start → Has (handed before start) (inputs (styled_evaluator (table after)) root_surroundings h)
  has-before start h is =
      let distinct = styled_distinct old start before.tree None leads.done.before.distinct in
      has-its (table after) (table before) (styled_with before start) h table-stays is distinct (inputs-document (table before) (styled_with before start) distinct)

  -- with all starts 0, an element that is handed something else differs
  plain-other : (k : ℕ) (a b : Surroundings) → handed after no_starts k ≡ Some a → handed before no_starts k ≡ Some b → is_same a b ≡ false → differs before after k ≡ true
  plain-other k a b at was apart =
      or_left (differ_at (inputs_with before no_starts) (inputs_with after no_starts) k) (differ_at (inputs_with before (own_starts before)) (inputs_with after (own_starts after)) k)
      (other-handed (inputs_at (inputs_with before no_starts) k) (inputs_at (inputs_with after no_starts) k) a b at was apart)

  plain : Merges (plain_merge edit before after) (styled_with before no_starts) (styled_with after no_starts)
  plain = plain-merges edit before after leads

  -- The first walk goes into no more elements than are led to and differ.
  shape : HasShape (plain_merge edit before after) first
  shape = has-shape old new no_starts no_starts None first

  first-anew :
      anew_count (styled_evaluator (table after)) root_surroundings root_surroundings (plain_merge edit before after)
      ≤ led_count (plain_merge edit before after) + sum_by (weight before after) (differing edit before after)
  first-anew =
      let w = weight before after in
      let e = styled_evaluator (table after) in
      let here : others w (heavy before after) (differs before after) (new_of first) ≡ others w (heavy before after) (differs before after) after.tree =
      ap (others w (heavy before after) (differs before after)) new-first in
      omega (
        arith,
        anew-within e (plain_merge edit before after) root_surroundings root_surroundings,
        others-few w (heavy before after) (differs before after) (table after) old new no_starts no_starts (handed after no_starts) (handed before no_starts) plain-other first None root_surroundings
            root_surroundings unturned refl (has-now no_starts (new_of (plain_merge edit before after)) plain.new) (has-before no_starts (old_of (plain_merge edit before after)) plain.old),
        here,
        differing-few edit before after,
      )

  module _ (keys : List ℕ) (turned : AreTurned edit before after keys) where
    abbrev whole : Merge Node
    whole = turned_merge edit before after (is_among keys)

    abbrev second : Merge StyledNode
    second = started_merge edit before after keys

    -- what the merge enters
    enters : (k : ℕ) → is_among (entered_elements whole) k ≡ true → (is_among (entered_elements first) k ≡ true) ⊎ OtherIn (is_among keys) (differs before after) first k
    enters =
        entered-turned (differs before after) (is_among keys) (table after) old new no_starts no_starts (handed after no_starts) (handed before no_starts) plain-other
        (HasSameBoxStarts (own_starts before) (own_starts after)) (λ k it. listed (λ key. HasSameBoxStarts (own_starts before) (own_starts after) key → ⊥) keys k turned.other it)
        (λ k it. listed (λ key. differs before after key ≡ true) keys k turned.differ it) first None root_surroundings root_surroundings unturned
        (reaches_are_walkable edit before.tree after.tree leads.done looks).leaves refl (edits_keep_starts edit before after leads somewhere).skipped
        (has-now no_starts (new_of (plain_merge edit before after)) plain.new) (has-before no_starts (old_of (plain_merge edit before after)) plain.old)

    pub entered-points : (k : ℕ) → is_among (entered_elements whole) k ≡ true → is_among (other_points edit before after) k ≡ true
    entered-points k there = elim (enters k there) [
      | inl placed_too ↦ placed-points edit before after k (entered_are_placed edit before after leads somewhere k placed_too)
      | inr other ↦ differing-points edit before after k (ap (λ g. is_among (elements_in g) k) (sym new-first) ∙ other.1) other.0
    ]

    -- what is told
    started : Merges second (styled_with before (own_starts before)) (styled_with after (own_starts after))
    started = second_merges_are_started edit before after leads (is_among keys) (own_starts before) (own_starts after) turned.kept

    abbrev Passed : ℕ → Type 0
    Passed k = differ_at (inputs_with before (own_starts before)) (inputs_with after (own_starts after)) k ≡ false

    abbrev Stays : ℕ × Told → Type 0
    Stays x = is_among (entered_elements whole) x.0 ≡ false → Passed x.0 → kept_at (told_of before) x.0 ≡ Some x.1

    holds : Holds (kept_at (told_of before)) (told_all (styled_evaluator (table after)) root_surroundings (old_of second))
    holds =
        subst (λ t. Holds (kept_at (told_of before)) (told_all (styled_evaluator t) root_surroundings (old_of second))) table-stays
        (subst (λ g. Holds (kept_at (told_of before)) (told_all (styled_evaluator (table before)) root_surroundings g)) (sym started.old) (told-holds before leads.done.before.distinct))

    all-stay : All Stays (told_of after)
    all-stay =
        subst (λ g. All Stays (told_all (styled_evaluator (table after)) root_surroundings g)) started.new
        (all-held (table after) old new (own_starts before) (own_starts after) (kept_at (told_of before)) (handed before (own_starts before)) (handed after (own_starts after)) Passed
        (λ k same a b at was. same-handed (inputs_at (inputs_with before (own_starts before)) k) (inputs_at (inputs_with after (own_starts after)) k) same a b at was)
        whole None root_surroundings root_surroundings
        (steady-turned (table after) old new (own_starts before) (own_starts after) (is_among keys) first None unturned (same-styles edit before after leads)) refl
        (has-now (own_starts after) (new_of second) started.new) (has-before (own_starts before) (old_of second) started.old) holds)

    told-element : (k : ℕ) (told : Told) → kept_at (told_of after) k ≡ Some told → is_among (elements_in after.tree) k ≡ true
    told-element k told is =
        All-contains (λ (x : ℕ × Told). is_among (elements_in after.tree) x.0 ≡ true) (told_of after) (k, told) (told-listed (table after) new (own_starts after) None after.tree root_surroundings)
        (kept_there (told_of after) k told is)

    pub change-points : HasChangesInPoints edit before after
    change-points k told is otherwise = elim (cases_Bool (is_among (entered_elements whole) k)) [
      | inl there ↦ entered-points k there
      | inr apart ↦ elim (cases_Bool (differ_at (inputs_with before (own_starts before)) (inputs_with after (own_starts after)) k)) [
        | inl differ ↦
            differing-points edit before after k (told-element k told is)
            (or_right (differ_at (inputs_with before no_starts) (inputs_with after no_starts) k) (differ_at (inputs_with before (own_starts before)) (inputs_with after (own_starts after)) k) differ)
        | inr same ↦ absurd (otherwise (All-contains Stays (told_of after) (k, told) all-stay (kept_there (told_of after) k told is) apart same))
      ]
    ]

    -- both walks, what goes, and what is made again
    pub edits-paid :
        (walk_budget (table after) (plain_merge edit before after)
        + walk_budget (table after) second
        + 3 * gone_count is_styled_element (plain_merge edit before after)
        + 4 * work edit before after)
        ≤ 24 * (work edit before after + 1)
    edits-paid =
        let w = weight before after in
        let e = styled_evaluator (table after) in
        let merge = plain_merge edit before after in
        let few = second_walks_are_few edit before after leads somewhere keys turned in
        let paid = places_are_paid edit before after leads somewhere in
        pays (anew_count e root_surroundings root_surroundings merge) (led_count merge) (anew_count e root_surroundings root_surroundings second) (come_count is_styled_element merge)
        (gone_count is_styled_element merge) (place_count merge) (sum_by w (placed edit before after)) (sum_by w (differing edit before after)) (sum_by w (around_places edit before after))
        (walk_work edit before after) (work edit before after) (walk_budget (table after) merge) (walk_budget (table after) second)
        first-anew few.anew (omega (arith, shape.led, shape.come, shape.gone, paid.few)) (omega (arith, shape.places, paid.places)) (walk-least edit before after) (walk-within edit before after)
        (omega arith) (omega (arith, few.come, few.places))

pub turned_enter_points : TurnedEnterPoints
turned_enter_points edit before after leads somewhere keys turned = entered-points edit before after leads somewhere keys turned

pub started_changes_are_told : StartedChangesAreTold
started_changes_are_told edit before after leads somewhere keys turned = change-points edit before after leads somewhere keys turned

pub started_news_are_paid : StartedNewsArePaid
started_news_are_paid edit before after leads somewhere keys turned styles news held tells =
    let merge = turned_merge edit before after (is_among keys) in
    let entered = entered-points edit before after leads somewhere keys turned in
    let changes = change-points edit before after leads somewhere keys turned in
    let of_news : (k : ℕ) → is_among (keys_of news) k ≡ true → is_among (other_points edit before after) k ≡ true =
    λ k there.
    let t = some_of (kept_at news k) (some-kept k news ∙ sym (keys_told news k) ∙ there) in
    let now : kept_at (told_of after) k ≡ Some t.0 = caught_there news (told_of after) tells.tells.once tells.tells.among k t.0 t.1 in
    elim (All-contains (λ (x : ℕ × Told). (is_among (entered_elements merge) x.0 ≡ true) ⊎ (kept_at (told_of before) x.0 ≡ Some x.1 → ⊥)) news (k, t.0) tells.each (kept_there news k t.0 t.1)) [
      | inl enters ↦ entered k enters
      | inr otherwise ↦ changes k t.0 now otherwise
    ] in
    let paid =
    renewal_is_paid edit before after merge news tells.tells.distinct_after
    (λ k there. elim (either-part k (keys_of news) (entered_elements merge) there) [
      | inl told ↦ of_news k told
      | inr enters ↦ entered k enters
    ]) in
    subst (λ (was : Evaluated). renewal_weight was (evaluated_as after.tree (told_of after)) merge news ≤ work edit before after) (told-so before tells.tells.distinct_before)
    (subst (λ (is : Evaluated). renewal_weight (evaluated before) is merge news ≤ work edit before after) (told-so after tells.tells.distinct_after) paid)

pub started_edits_are_paid : StartedEditsArePaid
started_edits_are_paid edit before after leads somewhere keys turned = edits-paid edit before after leads somewhere keys turned
