-- What is told of elements under an edit. Throughout, n is a node, c what is under it, r what is after it, g trees, m a
-- merge, and k a key.
use Rattle.std.proofs.Common.{◌≡◌, ◌≢◌, ◌==◌, ◌||◌, ℕ, ℤ, Bool, true, false, not, cond, List, [], ◌∷◌, ◌++◌, map, Option, Some, None, IsSome, ◌⊎◌, refl, sym, ap, ap₂, subst, ◌∙◌, inl, inr, eqb-true, eq-eqb}
use Rattle.std.specs.Prelude.{All, Contains, filter, flat_map, is_some, option_map}
use Rattle.std.proofs.lemmas.List.Elements.{All-cons, All-contains, All-head, All-nil, All-tail, All-weaker}
use Rattle.std.proofs.lemmas.List.Folds.{list_any-append}
use Rattle.std.proofs.lemmas.Bool.{or_parts}
use Rattle.forest.specs.Forest.{Forest, Empty, Tree}
use Rattle.forest.specs.Keys.{Keyed, HasDistinctKeys, times}
use Rattle.plain_types.specs.declared.box_id.BoxId.{BoxId}
use Rattle.plain_types.specs.declared.counter_style.CounterStyle.{CounterStyle}
use Rattle.plain_types.specs.declared.edit.Edit.{Edit}
use Rattle.plain_types.specs.declared.node.Node.{Node}
use Rattle.plain_types.specs.declared.node.Node.TheVariants as node
use Rattle.plain_types.specs.declared.style.Style.{Style}
use Rattle.node_arena.specs.Edits.{edited_sheet}
use Rattle.node_arena.specs.Nodes.{name_of}
use Rattle.box_eval.specs.declared.element_record.ElementRecord.{ElementRecord}
use Rattle.box_eval.specs.declared.inputs.Inputs.{Inputs}
use Rattle.box_eval.specs.Elements.{by_parent}
use Rattle.box_eval.specs.Starts.{no_starts}
use Rattle.box_eval.specs.Evaluation.{StyledNode, is_boxed, styled, style_within, styled_node, styled_trees, within}
use Rattle.generated_texts.specs.Documents.{agent_sheet, counter_styles, document_style}
use Rattle.generated_texts.specs.Entries.{node_entry}
use Rattle.generated_texts.specs.References.{kept_at, known_targets}
use Rattle.generated_texts.specs.StyleElements.{author_sheet}
use Rattle.generated_texts.specs.declared.entry.NodeEntry.{NodeEntry}
use Rattle.generated_texts.proofs.EntryKeys.{elements_keys}
use Rattle.merged_walk.specs.Entries.{AreAmong, Covers, Holds}
use Rattle.merged_walk.specs.Evaluators.{inputs, told_all}
use Rattle.merged_walk.specs.Laws.{Merges}
use Rattle.merged_walk.specs.Merges.{Merge, End, Kept, Turned, Gone, Come, has_place, new_of, old_of}
use Rattle.surroundings.specs.declared.surroundings.Surroundings.{Surroundings}
use Rattle.surroundings.specs.declared.told.Told.{Told}
use Rattle.surroundings.specs.Surroundings.{handed_by, surroundings_in, surroundings_of}
use Rattle.surroundings.specs.StyledEvaluators.{inside_node, root_surroundings, styled_evaluator}
use Rattle.surroundings.specs.StyledEvaluators.{is_element as is_styled_element}
use Rattle.surroundings.proofs.InputLaws.{inputs-document}
use Rattle.surroundings.proofs.Said.{said-document}
use Rattle.edit_merge.specs.EditMerges.{is_element}
use Rattle.edit_merge.proofs.EditLaws.{edits_merge}
use Rattle.style_reach.specs.Laws.{Edits}
use Rattle.style_reach.specs.Reaches.{all_features}
use Rattle.style_reach.specs.declared.extent.Reach.TheVariants.{All as Everywhere}
use Rattle.style_reach.proofs.AuthorLaws.{sheets-stay}
use Rattle.styled_merge.specs.Reached.{reached_merge}
use Rattle.styled_merge.specs.Stays.{IsUnturned}
use Rattle.styled_merge.specs.StyledMerges.{Starting, Styling, styled_merge}
use Rattle.styled_merge.specs.Laws.{style_beside}
use Rattle.styled_merge.proofs.KeptLaws.{unturned-whole}
use Rattle.styled_merge.proofs.LawLemmas.{documents_style_merges, starts_are_their_own}
use Rattle.styled_merge.proofs.ShapeLaws.{has-shape}
use Rattle.edit_work.specs.Inputs.{are_other, differ_at, differs, inputs_at, is_same_inputs}
use Rattle.edit_work.specs.KeyedSources.{KeyedSource, author, child_elements, either, elements_in, inputs_with, is_among, own_starts, records, styled_with, table}
use Rattle.edit_work.specs.Laws.{Leads}
use Rattle.edit_work.specs.ReachedLaws.{ReachedMergesWith, reached_with}
use Rattle.edit_work.specs.Work.{around_places, differing, edit_reach, in_scopes, placed}
use Rattle.edit_work.proofs.LawLemmas.{has-its, test_tells_inputs}
use Rattle.reference_reach.specs.Laws.{EnteredArePlaced, ReferringIsPaid, other_points}
use Rattle.reference_reach.specs.MergedNodes.{entered_elements}
use Rattle.reference_reach.specs.ToldLaws.{AreNews, ChangesAreTold, HasChangesInPoints, IsPassed, TellsChanges, UnstartedChangesAreTold, keys_of, told_of, told_with, whole_merge}
use Rattle.reference_reach.proofs.KnownLaws.{kept-mapped}
use Rattle.reference_reach.proofs.OnceTold.{holds-told, kept-has}
use Rattle.reference_reach.proofs.PassedElements.{HandsOn, HasNoTurned, all-held, elements, entered, left-among, listed, right-among, right-true}
use Rattle.reference_reach.proofs.WorkLaws.{among-filter}

-- Merges with styles.

module _ (style : Styling) (start : Starting) where
  element-is : (parent : Option Style) (k : ℕ) (label : Node) → is_styled_element (styled_node style start parent k label) ≡ is_element label
  element-is parent k (node.Element name attrs) = refl
  element-is parent k (node.Text characters) = refl

  elements-styled : (g : Forest (Keyed Node)) (parent : Option Style) → elements is_styled_element (styled_trees style start parent g) ≡ elements_in g
  elements-styled Empty parent = refl
  elements-styled (Tree n c r) parent =
      let own = element-is parent n.key n.label in
      let below = elements-styled c (style_within style start parent n.key n.label) in
      let beside = elements-styled r parent in λ t. cond (own t) (n.key ∷ []) [] ++ (below t ++ beside t)

  times-styled : (k : ℕ) (g : Forest (Keyed Node)) (parent : Option Style) → times k (styled_trees style start parent g) ≡ times k g
  times-styled k Empty parent = refl
  times-styled k (Tree n c r) parent =
      let below = times-styled k c (style_within style start parent n.key n.label) in
      let beside = times-styled k r parent in
      rw (below, beside) refl

  distinct-styled : (g : Forest (Keyed Node)) (parent : Option Style) → HasDistinctKeys g → HasDistinctKeys (styled_trees style start parent g)
  distinct-styled g parent distinct k = rw (times-styled k g parent) (distinct k)

module _ (old new : Styling) (was_start start : Starting) where
  abbrev inner : Option Style → Keyed Node → Option Style
  inner parent n = style_within old was_start parent n.key n.label

  entered-styled : (m : Merge Node) (parent : Option Style) → entered is_styled_element (styled_merge old new was_start start parent m) ≡ entered_elements m
  entered-styled End parent = refl
  entered-styled (Kept n c r) parent =
      let place = (has-shape old new was_start start (inner parent n) c).has_place in
      let below = entered-styled c (inner parent n) in
      let beside = entered-styled r parent in λ t. cond (place t) (n.key ∷ []) [] ++ (below t ++ beside t)
  entered-styled (Turned was n c r) parent =
      let below = entered-styled c (inner parent was) in
      let beside = entered-styled r parent in λ t. n.key ∷ (below t ++ beside t)
  entered-styled (Gone n c r) parent = entered-styled r parent
  entered-styled (Come n c r) parent =
      ap₂ (λ xs ys. xs ++ ys) (elements-styled new start (Tree n c Empty) parent) (entered-styled r parent)

  none-turned : (m : Merge Node) (parent : Option Style) → IsUnturned m → HasNoTurned (styled_merge old new was_start start parent m)
  none-turned End parent h = tt
  none-turned (Kept n c r) parent h = (none-turned c (inner parent n) h.0, none-turned r parent h.1)
  none-turned (Turned was n c r) parent h = h.0
  none-turned (Gone n c r) parent h = none-turned r parent h
  none-turned (Come n c r) parent h = none-turned r parent h

-- The evaluator of styled documents hands on something exactly where it is handed something and there is a box.

one-some : {S : Type 0} (t : Bool) (a b : S) → is_some (cond t (Some a) None) ≡ is_some (cond t (Some b) None)
one-some true a b = refl
one-some false a b = refl

module _ (table : List CounterStyle) where
  within-some : (n : Keyed StyledNode) (i j : Option Surroundings) → is_some i ≡ is_some j → is_some (inside_node table n i) ≡ is_some (inside_node table n j)
  within-some n None None some = refl
  within-some n None (Some b) some = absurd (cc)
  within-some n (Some a) None some = absurd (cc)
  within-some n (Some a) (Some b) some =
      one-some (is_boxed true n.label) (surroundings_of (within table by_parent true n.key n.label (handed_by a))) (surroundings_of (within table by_parent true n.key n.label (handed_by b)))

  past-some : (n : Keyed StyledNode) (i b : Option Surroundings) → is_some ((styled_evaluator table).past n i b) ≡ is_some i
  past-some n None b = refl
  past-some n (Some a) b = refl

  hands-on : HandsOn (styled_evaluator table)
  hands-on = record { within = within-some; past = past-some }

-- where inputs are the same, the same is handed
abbrev handed_at : List Inputs → ℕ → Option Surroundings
handed_at all k = option_map surroundings_in (inputs_at all k)

same-handed : (before now : Option Inputs) → are_other before now ≡ false → (a b : Surroundings) → option_map surroundings_in now ≡ Some a → option_map surroundings_in before ≡ Some b → a ≡ b
same-handed None now h a b at was = absurd (cc)
same-handed (Some before) None h a b at was = absurd (cc)
same-handed (Some before) (Some now) h a b at was =
    let now_is : surroundings_in now ≡ a = cc in
    let before_is : surroundings_in before ≡ b = cc in
    let same : is_same_inputs before now ≡ true = not-false (is_same_inputs before now) h in
    sym now_is ∙ sym (ap surroundings_in ((test_tells_inputs before now).0 same)) ∙ before_is
  where
    not-false : (b : Bool) → not b ≡ false → b ≡ true
    not-false true h = refl
    not-false false h = absurd (cc)

-- What is told of elements that a walk may pass.

module _ (edit : Edit) (before after : KeyedSource) (leads : Leads edit before after) (other : edit_reach edit before after ≢ Everywhere) where
  edits : Edits edit before.tree after.tree
  edits = record { document = leads.done.before; allowed = leads.done.allowed; edited = leads.done.edited }

  table-stays : table before ≡ table after
  table-stays =
      sym (ap counter_styles (ap (λ sheet. author_sheet sheet after.tree) leads.sheet
      ∙ sheets-stay (all_features agent_sheet (author before)) edit before.tree after.tree before.sheet edits other))

  abbrev whole : Merge Node
  whole = whole_merge edit before after

  module _ (was_start start : Starting) (forests : ReachedMergesWith edit before after was_start start) where
    abbrev m : Merge StyledNode
    m = reached_with edit before after was_start start

    abbrev old : Styling
    old = document_style (author before) before.tree

    abbrev new : Styling
    new = document_style (author after) after.tree

    was-distinct : HasDistinctKeys (styled_with before was_start)
    was-distinct = distinct-styled old was_start before.tree None leads.done.before.distinct

    now-distinct : HasDistinctKeys (styled_with after start)
    now-distinct = distinct-styled new start after.tree None leads.done.after.distinct

    abbrev Passed : ℕ → Type 0
    Passed k = differ_at (inputs_with before was_start) (inputs_with after start) k ≡ false

    holds : Holds (kept_at (told_with before was_start)) (told_all (styled_evaluator (table after)) root_surroundings (old_of m))
    holds =
        subst (λ t. Holds (kept_at (told_with before was_start)) (told_all (styled_evaluator t) root_surroundings (old_of m))) table-stays
        (subst (λ g. Holds (kept_at (told_with before was_start)) (told_all (styled_evaluator (table before)) root_surroundings g)) (sym forests.old)
        (holds-told (styled_evaluator (table before)) root_surroundings (styled_with before was_start) was-distinct))

    abbrev held : ℕ × Told → Type 0
    held x = is_among (entered is_styled_element m) x.0 ≡ false → Passed x.0 → kept_at (told_with before was_start) x.0 ≡ Some x.1

    each-held : All held (told_with after start)
    each-held =
        let e = styled_evaluator (table after) in
        let turned = none-turned old new was_start start whole None (unturned-whole edit before.tree after.tree edits (edits_merge edit before.tree after.tree leads.done) (all_features agent_sheet (author before))) in
        let hands = has-its (table after) (table after) (styled_with after start) (new_of m) refl forests.new now-distinct (inputs-document (table after) (styled_with after start) now-distinct) in
        let handed = has-its (table after) (table before) (styled_with before was_start) (old_of m) table-stays forests.old was-distinct (inputs-document (table before) (styled_with before was_start) was-distinct) in
        subst (λ g. All held (told_all e root_surroundings g)) forests.new
        (all-held e (hands-on (table after)) (kept_at (told_with before was_start)) (handed_at (inputs_with before was_start)) (handed_at (inputs_with after start)) Passed
        (λ k same a b at was. same-handed (inputs_at (inputs_with before was_start) k) (inputs_at (inputs_with after start) k) same a b at was)
        m turned root_surroundings root_surroundings refl hands handed holds)

    pub passed-same : (k : ℕ) (told : Told) → kept_at (told_with after start) k ≡ Some told → IsPassed edit before after was_start start k → kept_at (told_with before was_start) k ≡ Some told
    passed-same k told is passed =
        kept-has held (told_with after start) k told is each-held (ap (λ keys. is_among keys k) (entered-styled old new was_start start whole None) ∙ passed.apart) passed.inputs

-- Where an element stands among the points of an edit's work.

in-each : (others : ℕ → List ℕ) (k : ℕ) (xs : List ℕ) → is_among xs k ≡ true → is_among (flat_map (λ x. x ∷ others x) xs) k ≡ true
in-each others k [] h = h
in-each others k (x ∷ xs) h = by (x == k) refl (in-each others k xs) h
  where
    by : (b : Bool) → (x == k) ≡ b → (is_among xs k ≡ true → is_among (flat_map (λ x. x ∷ others x) xs) k ≡ true) → (b || is_among xs k) ≡ true
        → is_among (flat_map (λ x. x ∷ others x) (x ∷ xs)) k ≡ true
    by true is later h = left-among k (x ∷ others x) (flat_map (λ x. x ∷ others x) xs) (ap (λ b. b || is_among (others x) k) is)
    by false is later h = right-among k (x ∷ others x) (flat_map (λ x. x ∷ others x) xs) (later h)

module _ (edit : Edit) (before after : KeyedSource) where
  in-differing : (k : ℕ) → is_among (elements_in after.tree) k ≡ true → differs before after k ≡ true → is_among (differing edit before after) k ≡ true
  unfolding differing
  in-differing k element is =
      in-each (λ x. either (child_elements before.tree x) (child_elements after.tree x)) k (filter (differs before after) (elements_in after.tree))
      (among-filter (differs before after) k is (elements_in after.tree) element)

  abbrev rest_of_points : List ℕ
  rest_of_points = in_scopes edit before after ++ around_places edit before after

  differing-points : (k : ℕ) → is_among (differing edit before after) k ≡ true → is_among (other_points edit before after) k ≡ true
  differing-points k h =
      right-among k (placed edit before after) (differing edit before after ++ rest_of_points) (left-among k (differing edit before after) rest_of_points h)

  placed-points : (k : ℕ) → is_among (placed edit before after ++ around_places edit before after) k ≡ true → is_among (other_points edit before after) k ≡ true
  placed-points k h = by (is_among (placed edit before after) k) refl
    where
      by : (b : Bool) → is_among (placed edit before after) k ≡ b → is_among (other_points edit before after) k ≡ true
      by true is = left-among k (placed edit before after) (differing edit before after ++ rest_of_points) is
      by false is =
          let around : is_among (around_places edit before after) k ≡ true =
          ap (λ b. b || is_among (around_places edit before after) k) (sym is)
          ∙ sym (list_any-append (λ other. other == k) (placed edit before after) (around_places edit before after)) ∙ h in
          right-among k (placed edit before after) (differing edit before after ++ rest_of_points)
          (right-among k (differing edit before after) rest_of_points (right-among k (in_scopes edit before after) (around_places edit before after) around))

module _ (placed_are : EnteredArePlaced) (edit : Edit) (before after : KeyedSource) (leads : Leads edit before after) (other : edit_reach edit before after ≢ Everywhere) where
  abbrev entered_here : List ℕ
  entered_here = entered_elements (whole_merge edit before after)

  told-element : (k : ℕ) (told : Told) → kept_at (told_of after) k ≡ Some told → is_among (elements_in after.tree) k ≡ true
  told-element k told is =
      let style = document_style (author after) after.tree in
      sym (ap (λ keys. is_among keys k) (elements-styled style (own_starts after) after.tree None))
      ∙ kept-has (λ (x : ℕ × Told). is_among (elements is_styled_element (styled_with after (own_starts after))) x.0 ≡ true) (told_of after) k told is
      (listed (styled_evaluator (table after)) root_surroundings (styled_with after (own_starts after)))

  entered-points : (k : ℕ) → is_among entered_here k ≡ true → is_among (other_points edit before after) k ≡ true
  entered-points k h = placed-points edit before after k (placed_are edit before after leads other k h)

  change-told : (change : ℕ × Told) → Contains (told_of after) change → kept_at (told_of after) change.0 ≡ Some change.1
  change-told change there =
      let style = document_style (author after) after.tree in
      All-contains (λ (x : ℕ × Told). kept_at (told_of after) x.0 ≡ Some x.1) (told_of after) change
      (holds-told (styled_evaluator (table after)) root_surroundings (styled_with after (own_starts after)) (distinct-styled style (own_starts after) after.tree None leads.done.after.distinct))
      there

  -- With starts that tell what the documents' own do.
  module _ (was_start start : Starting) (forests : ReachedMergesWith edit before after was_start start)
      (too : (k : ℕ) → differ_at (inputs_with before was_start) (inputs_with after start) k ≡ true → differs before after k ≡ true)
      (was_told : told_with before was_start ≡ told_of before) (now_told : told_with after start ≡ told_of after) where
    change-points : HasChangesInPoints edit before after
    change-points k told is new = by (is_among entered_here k) (differ_at (inputs_with before was_start) (inputs_with after start) k) refl refl
      where
        by : (a d : Bool) → is_among entered_here k ≡ a → differ_at (inputs_with before was_start) (inputs_with after start) k ≡ d → is_among (other_points edit before after) k ≡ true
        by true d at differ = entered-points k at
        by false true at differ = differing-points edit before after k (in-differing edit before after k (told-element k told is) (too k differ))
        by false false at differ =
            absurd (new
            (ap (λ (all : List (ℕ × Told)). kept_at all k) (sym was_told)
            ∙ passed-same edit before after leads other was_start start forests k told (ap (λ (all : List (ℕ × Told)). kept_at all k) now_told ∙ is) (record { apart = at; inputs = differ })))

    news-points : (changes : List (ℕ × Told)) → All (Contains (told_of after)) changes → All (λ (change : ℕ × Told). kept_at (told_of before) change.0 ≡ Some change.1 → ⊥) changes
        → (k : ℕ) → is_among (keys_of changes) k ≡ true → is_among (other_points edit before after) k ≡ true
    news-points [] told others k h = absurd (cc h)
    news-points (change ∷ changes) told others k h =
        by (change.0 == k) refl
        (news-points changes (All-tail (Contains (told_of after)) change changes told)
        (All-tail (λ (change : ℕ × Told). kept_at (told_of before) change.0 ≡ Some change.1 → ⊥) change changes others) k) h
      where
        by : (b : Bool) → (change.0 == k) ≡ b → (is_among (keys_of changes) k ≡ true → is_among (other_points edit before after) k ≡ true)
            → (b || is_among (keys_of changes) k) ≡ true → is_among (other_points edit before after) k ≡ true
        by true is later h =
            subst (λ key. is_among (other_points edit before after) key ≡ true) (eqb-true change.0 k is)
            (change-points change.0 change.1
            (change-told change (All-head (Contains (told_of after)) change changes told))
            (All-head (λ (change : ℕ × Told). kept_at (told_of before) change.0 ≡ Some change.1 → ⊥) change changes others))
        by false is later h = later h

    walked-points : (changes : List (ℕ × Told)) → AreNews edit before after changes → (k : ℕ) → is_among (keys_of changes ++ entered_here) k ≡ true → is_among (other_points edit before after) k ≡ true
    walked-points changes news k h = by (is_among (keys_of changes) k) refl
      where
        by : (b : Bool) → is_among (keys_of changes) k ≡ b → is_among (other_points edit before after) k ≡ true
        by true is = news-points changes news.told news.others k is
        by false is =
            entered-points k
            (ap (λ b. b || is_among entered_here k) (sym is) ∙ sym (list_any-append (λ other. other == k) (keys_of changes) entered_here) ∙ h)

    pub tells-changes : ReferringIsPaid → TellsChanges edit before after
    tells-changes paid = record {
      points = change-points;
      paid = λ changes news.
          paid edit before after (keys_of changes ++ entered_here) leads.done.after.distinct (λ k element h. walked-points changes news k h);
    }

-- with the starts of each document
pub own-changes : EnteredArePlaced → ReferringIsPaid → ChangesAreTold
own-changes placed_are paid edit before after leads other forests =
    tells-changes placed_are edit before after leads other (own_starts before) (own_starts after) forests
    (λ k differ. right-true (differ_at (inputs_with before no_starts) (inputs_with after no_starts) k) (differ_at (inputs_with before (own_starts before)) (inputs_with after (own_starts after)) k) differ)
    refl refl paid

-- with all starts 0 the merge is that of both documents
unstarted : (edit : Edit) (before after : KeyedSource) → Leads edit before after → ReachedMergesWith edit before after no_starts no_starts
unstarted edit before after leads =
    let old = style_beside before.sheet before.tree in
    let new = λ (text : List ℕ). style_beside text after.tree in
    let its = whole_merge edit before after in
    let merges = edits_merge edit before.tree after.tree leads.done in
    let edited : Edits edit before.tree after.tree = record { document = leads.done.before; allowed = leads.done.allowed; edited = leads.done.edited } in
    let same = starts_are_their_own (new (edited_sheet edit before.sheet)) no_starts its in
    subst (λ (text : List ℕ). Merges (styled_merge old (new text) no_starts no_starts None its) (styled old no_starts before.tree) (styled (new text) no_starts after.tree))
    (sym leads.sheet) (documents_style_merges edit before.tree after.tree edited merges before.sheet no_starts no_starts same)

pub unstarted-changes : EnteredArePlaced → ReferringIsPaid → UnstartedChangesAreTold
unstarted-changes placed_are paid edit before after leads other was_told now_told =
    tells-changes placed_are edit before after leads other no_starts no_starts (unstarted edit before after leads)
    (λ k differ. ap (λ b. b || differ_at (inputs_with before (own_starts before)) (inputs_with after (own_starts after)) k) differ)
    was_told now_told paid

-- Changes that cover what is told.

records-said : (source : KeyedSource) → HasDistinctKeys source.tree → map (λ (x : ℕ × Told). (x.0, x.1.said)) (told_of source) ≡ records source
records-said source distinct =
    said-document (table source) (styled_with source (own_starts source)) (distinct-styled (document_style (author source) source.tree) (own_starts source) source.tree None distinct)

said-at : (source : KeyedSource) → HasDistinctKeys source.tree → (k : ℕ) → kept_at (records source) k ≡ option_map (λ (told : Told). told.said) (kept_at (told_of source) k)
said-at source distinct k =
    ap (λ (kept : List (ℕ × ElementRecord)). kept_at kept k) (sym (records-said source distinct)) ∙ kept-mapped (λ (told : Told). told.said) (told_of source) k

some-mapped : {V W : Type 0} (f : V → W) (o : Option V) → is_some (option_map f o) ≡ is_some o
some-mapped f None = refl
some-mapped f (Some v) = refl

-- something is told of each element
told-some : (source : KeyedSource) → HasDistinctKeys source.tree → (k : ℕ) → is_some (kept_at (told_of source) k) ≡ is_some (name_of source.tree k)
told-some source distinct k =
    let entry : ElementRecord → NodeEntry = node_entry (table source) (known_targets (table source) source.tree (records source)) in
    sym (some-mapped (λ (told : Told). told.said) (kept_at (told_of source) k))
    ∙ ap (λ (o : Option ElementRecord). is_some o) (sym (said-at source distinct k))
    ∙ sym (some-mapped entry (kept_at (records source) k))
    ∙ ap (λ (o : Option NodeEntry). is_some o) (sym (kept-mapped entry (records source) k))
    ∙ elements_keys (author source) source.tree k distinct

key-listed : (changes : List (ℕ × Told)) (x : ℕ × Told) → Contains changes x → is_among (keys_of changes) x.0 ≡ true
key-listed changes x there = All-contains (λ (y : ℕ × Told). is_among (keys_of changes) y.0 ≡ true) changes x (each changes) there
  where
    each : (changes : List (ℕ × Told)) → All (λ (y : ℕ × Told). is_among (keys_of changes) y.0 ≡ true) changes
    each [] = All-nil (λ (y : ℕ × Told). is_among [] y.0 ≡ true)
    each (y ∷ ys) =
        All-cons (λ (z : ℕ × Told). is_among (keys_of (y ∷ ys)) z.0 ≡ true) y ys (ap (λ b. b || is_among (keys_of ys) y.0) (eq-eqb y.0 y.0 refl))
        (All-weaker (λ (z : ℕ × Told). is_among (keys_of ys) z.0 ≡ true) (λ (z : ℕ × Told). is_among (keys_of (y ∷ ys)) z.0 ≡ true)
        (λ z h. right-among z.0 (y.0 ∷ []) (keys_of ys) h) ys (each ys))

module _ (before after : KeyedSource) (was_distinct : HasDistinctKeys before.tree) (distinct : HasDistinctKeys after.tree) (changes : List (ℕ × Told))
    (covers : Covers changes (kept_at (told_of before)) (told_of after)) where
  stays-told : (k : ℕ) (told : Told) → kept_at (told_of after) k ≡ Some told → is_among (keys_of changes) k ≡ false → kept_at (told_of before) k ≡ Some told
  stays-told k told is apart =
      elim (kept-has (λ (x : ℕ × Told). Contains changes x ⊎ (kept_at (told_of before) x.0 ≡ Some x.1)) (told_of after) k told is covers) [
        | inl there ↦ absurd (let among = key-listed changes (k, told) there in cc (among, apart))
        | inr held ↦ held
      ]

  pub changes-others : (k : ℕ) → IsSome (name_of after.tree k) → is_among (keys_of changes) k ≡ false → kept_at (records after) k ≡ kept_at (records before) k
  changes-others k element apart = by (kept_at (told_of after) k) refl (told-some after distinct k ∙ element)
    where
      by : (o : Option Told) → kept_at (told_of after) k ≡ o → is_some o ≡ true → kept_at (records after) k ≡ kept_at (records before) k
      by None is some = absurd (cc some)
      by (Some told) is some =
          said-at after distinct k ∙ ap (option_map (λ (told : Told). told.said)) (is ∙ sym (stays-told k told is apart)) ∙ sym (said-at before was_distinct k)
