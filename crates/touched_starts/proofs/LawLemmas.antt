-- What is not touched stays, and what is touched is told again.
use Rattle.std.proofs.Common.{◌≡◌, ◌≢◌, ◌==◌, ◌<◌, ◌∷◌, ℕ, All, eqb-true, Bool, true, false, cond, List, [], Option, Some, None, inl, inr, refl, sym, ap, subst, ◌∙◌}
use Rattle.std.specs.Prelude.{option_map}
use Rattle.std.specs.FinMap.{get}
use Rattle.std.proofs.lemmas.Bool.{or_cases}
use Rattle.std.proofs.lemmas.List.Elements.{All-head, All-tail}
use Rattle.forest.specs.Keys.{HasDistinctKeys, times}
use Rattle.forest.specs.Spots.{IsLive}
use Rattle.plain_types.specs.declared.box_id.BoxId.{BoxId}
use Rattle.plain_types.specs.declared.edit.Edit.{Edit}
use Rattle.snapshot_board.specs.Records.{Records}
use Rattle.box_eval.specs.Starts.{no_starts}
use Rattle.generated_texts.specs.Documents.{agent_sheet, counter_styles, document_style}
use Rattle.merged_walk.specs.Counts.{weigh_places}
use Rattle.merged_walk.specs.Entries.{Holds}
use Rattle.merged_walk.specs.Merges.{new_of}
use Rattle.surroundings.specs.StyledEvaluators.{root_surroundings}
use Rattle.style_reach.specs.Reaches.{all_features}
use Rattle.style_reach.specs.declared.extent.Reach.TheVariants.{All as Everywhere}
use Rattle.styled_merge.proofs.ShapeLaws.{has-shape}
use Rattle.styled_merge.proofs.StopLemmas.{reaches_are_walkable}
use Rattle.edit_work.specs.Counters.{Identity}
use Rattle.edit_work.specs.KeyedSources.{KeyedSource, author, is_among, own_starts, styled_with, table}
use Rattle.edit_work.specs.Laws.{Leads}
use Rattle.edit_work.specs.Work.{edit_reach}
use Rattle.start_reach.specs.Deeds.{AreAlike, AreCompared, Deeds, IsIdle, deeds_in}
use Rattle.start_reach.specs.Laws.{plain_merge}
use Rattle.start_reach.specs.SecondMerges.{first_merge}
use Rattle.start_reach.proofs.DeedLaws.{compared_is_left_alone}
use Rattle.start_reach.proofs.LawLemmas.{author-stays, edits_keep_starts, plain-merges}
use Rattle.document_walk.proofs.StyledKeys.{styled_distinct}
use Rattle.counter_index.specs.declared.deeds.CounterDeeds.{CounterDeeds}
use Rattle.scope_deeds.specs.Reversed.{is_start_of}
use Rattle.counter_index.specs.Documents.{all_deeds}
use Rattle.counter_index.specs.declared.index.CounterIndex.{CounterIndex}
use Rattle.counter_index.specs.Indexes.{asked_at, asked_by, deeds_at, is_asked, starts_by, with_values}
use Rattle.counter_index.specs.Touched.{AreTouched, IsUntouched, deeds_by, did, does}
use Rattle.counter_index.proofs.IndexLemmas.{asked_are_own, index_keeps_what_is_done, one-key, same-told}
use Rattle.counter_index.proofs.PutLemmas.{told_are_exchanged}
use Rattle.touched_starts.specs.Laws.{HasStarts, IsBrought, StartsAreBrought, UntouchedStartsStay}
use Rattle.touched_starts.proofs.IndexedDeeds.{holds-deeds, others-do-nothing, times-styled}

-- what is true of each of these keys is true of one that is among them
listed : (P : ℕ → Type 0) (keys : List ℕ) (key : ℕ) → All P keys → is_among keys key ≡ true → P key
listed P [] key all is = absurd (cc is)
listed P (other ∷ keys) key all is = elim (or_cases (other == key) (is_among keys key) is) [
  | inl here ↦ subst P (eqb-true other key here) (All-head P other keys all)
  | inr later ↦ listed P keys key (All-tail P other keys all) later
]

module _ (edit : Edit) (before after : KeyedSource) (leads : Leads edit before after) (other : edit_reach edit before after ≢ Everywhere)
    (was now : CounterIndex) (former : List (ℕ × Option CounterDeeds)) (moved : List ℕ) (brought : IsBrought edit before after was now former moved) where
  tables : table after ≡ table before
  tables = ap counter_styles (author-stays edit before after leads other)

  distinct-new : HasDistinctKeys (new_of (plain_merge edit before after))
  distinct-new =
      subst HasDistinctKeys (sym (plain-merges edit before after leads).new)
      (styled_distinct (document_style (author after) after.tree) no_starts after.tree None leads.done.after.distinct)

  abbrev full_before : ℕ → Option CounterDeeds
  full_before = all_deeds (table before) (document_style (author before) before.tree) before.tree

  abbrev full_after : ℕ → Option CounterDeeds
  full_after = all_deeds (table after) (document_style (author after) after.tree) after.tree

  module _ (counter : Identity) (had : is_asked was counter.creator counter.name ≡ true) (has : is_asked now counter.creator counter.name ≡ true) (untouched : IsUntouched former moved now counter) where
    did-is : (key : ℕ) → did former moved now key ≡ option_map deeds_by (deeds_at was key)
    did-is key = ap (option_map deeds_by) (brought.back key)

    -- to it each element does and did what the indexes have
    does-it : (key : ℕ) → AreAlike counter (option_map deeds_by (full_after key)) (option_map deeds_by (deeds_at now key))
    does-it = index_keeps_what_is_done (table after) (document_style (author after) after.tree) after.tree now leads.done.after.distinct brought.does counter has

    did-it : (key : ℕ) → AreAlike counter (option_map deeds_by (full_before key)) (option_map deeds_by (deeds_at was key))
    did-it = index_keeps_what_is_done (table before) (document_style (author before) before.tree) before.tree was leads.done.before.distinct brought.did counter had

    alike-both : (one some more other : Option Deeds) → AreAlike counter one some → AreAlike counter some more → AreAlike counter other more → AreAlike counter one other
    alike-both one some more other a b c = record {
      before_children = a.before_children ∙ b.before_children ∙ sym c.before_children;
      after_children = a.after_children ∙ b.after_children ∙ sym c.after_children;
    }

    was-idle : (key : ℕ) → 0 < weigh_places (times key) (λ _. 0) (plain_merge edit before after) → IsIdle counter (option_map deeds_by (deeds_at was key))
    was-idle key goes =
        elim (brought.gone key goes) [
          | inl none ↦ subst (λ (deeds : Option CounterDeeds). IsIdle counter (option_map deeds_by deeds)) (sym none) (record { before_children = refl; after_children = refl })
          | inr among ↦ subst (IsIdle counter) (did-is key) (listed (λ key. IsIdle counter (did former moved now key)) moved key untouched.idle among)
        ]

    compared : AreCompared (table after) counter root_surroundings root_surroundings (plain_merge edit before after)
        (λ key. option_map deeds_by (full_after key)) (λ key. option_map deeds_by (full_before key))
    compared =
        let both = plain-merges edit before after leads in
        let old = document_style (author before) before.tree in
        let new = document_style (author after) after.tree in
        record {
          does = subst (λ trees. Holds (λ key. option_map deeds_by (full_after key)) (deeds_in (table after) root_surroundings trees)) (sym both.new)
              (holds-deeds (table after) new after.tree leads.done.after.distinct);
          did =
              subst (λ trees. Holds (λ key. option_map deeds_by (full_before key)) (deeds_in (table after) root_surroundings trees)) (sym both.old)
              (subst (λ own. Holds (λ key. option_map deeds_by (full_before key)) (deeds_in own root_surroundings (styled_with before no_starts))) (sym tables)
              (holds-deeds (table before) old before.tree leads.done.before.distinct));
          others = λ key none.
              ap (option_map deeds_by)
              (others-do-nothing (table before) old before.tree leads.done.before.distinct key
              (sym (times-styled old key before.tree None) ∙ sym (ap (times key) both.old) ∙ none));
          alike = λ key.
              alike-both (option_map deeds_by (full_after key)) (does former moved now key) (option_map deeds_by (deeds_at was key)) (option_map deeds_by (full_before key)) (does-it key)
              (subst (AreAlike counter (does former moved now key)) (did-is key) (untouched.alike key)) (did-it key);
          idle = λ key goes. (let was = did-it key in let none = was-idle key goes in record {
            before_children = was.before_children ∙ none.before_children;
            after_children = was.after_children ∙ none.after_children;
          });
        }

    start-stays : own_starts after counter.creator counter.name ≡ own_starts before counter.creator counter.name
    start-stays =
        let old = document_style (author before) before.tree in
        let new = document_style (author after) after.tree in
        let plain = reaches_are_walkable edit before.tree after.tree leads.done (all_features agent_sheet (author before)) in
        let shape = has-shape old new no_starts no_starts None (first_merge edit before after) in
        (edits_keep_starts edit before after leads other).alone counter
        (compared_is_left_alone (table after) counter root_surroundings root_surroundings (plain_merge edit before after) distinct-new (shape.leaves plain.leaves)
        (λ key. option_map deeds_by (full_after key)) (λ key. option_map deeds_by (full_before key)) compared)

pub untouched_starts_stay : UntouchedStartsStay
untouched_starts_stay edit before after leads other was now former moved brought counter had has untouched =
    start-stays edit before after leads other was now former moved brought counter had has untouched

-- Starts that are told again.

module _ (edit : Edit) (before after : KeyedSource) (leads : Leads edit before after) (other : edit_reach edit before after ≢ Everywhere)
    (was now : CounterIndex) (former : List (ℕ × Option CounterDeeds)) (moved : List ℕ) (brought : IsBrought edit before after was now former moved)
    (had : HasStarts before was) (keys : List ℕ) (touched : AreTouched former moved now keys) (key : ℕ) where
  same-asked : is_among keys key ≡ false → asked_at was key ≡ asked_at now key
  same-asked apart =
      elim (touched.own key) [
        | inl is ↦ absurd (cc)
        | inr same ↦ sym (same ∙ ap asked_by (brought.back key))
      ]

  same-start : is_among keys key ≡ false → (creator : BoxId) (name : List ℕ) → is_start_of creator name (asked_at now key) ≡ true
      → own_starts before creator name ≡ own_starts after creator name
  same-start apart creator name is =
      let own = document_style (author after) after.tree in
      let here : creator.key ≡ key = one-key key (IsLive after.tree key) creator name (asked_at now key) (asked_are_own (table after) own after.tree now brought.does key) is in
      let asked : is_asked now creator name ≡ true = ap (λ at. is_start_of creator name (asked_at now at)) here ∙ is in
      let had : is_asked was creator name ≡ true = ap (λ at. is_start_of creator name (asked_at was at)) here ∙ ap (is_start_of creator name) (same-asked apart) ∙ is in
      elim (touched.others (record { creator = creator; name = name }) asked) [
        | inl found ↦ absurd (let there : is_among keys key ≡ true = sym (ap (is_among keys) here) ∙ found in cc)
        | inr untouched ↦ sym (start-stays edit before after leads other was now former moved brought (record { creator = creator; name = name }) had asked untouched)
      ]

  its-starts : (among : Bool) → is_among keys key ≡ among
      → starts_by (cond among (Some (with_values (own_starts after) (asked_at now key))) (get was.starts.held key)) ≡ with_values (own_starts after) (asked_at now key)
  its-starts true is = refl
  its-starts false is =
      had key
      ∙ ap (with_values (own_starts before)) (same-asked is)
      ∙ same-told (own_starts before) (own_starts after) (asked_at now key) (same-start is)

pub starts_are_brought : StartsAreBrought
starts_are_brought edit before after leads other was now former moved brought had keys touched told deeds exchanged =
    let same : (key : ℕ) → deeds_at told key ≡ deeds_at now key = λ key. ap (λ (records : Records CounterDeeds). get records.held key) deeds in
    record {
      deeds = λ key. same key ∙ brought.does key;
      starts = λ key.
          ap starts_by (exchanged key ∙ told_are_exchanged (own_starts after) now keys (get was.starts.held) key)
          ∙ its-starts edit before after leads other was now former moved brought had keys touched key (is_among keys key) refl
          ∙ ap (λ kept. with_values (own_starts after) (asked_by kept)) (sym (same key));
    }
