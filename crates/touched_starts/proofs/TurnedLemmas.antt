-- The elements that are turned in the second merge of an edit. Throughout, b is whether the parent of a node has a box, p the style of the
-- parent, n a node, and k a key.
use Rattle.std.proofs.Common.{◌≡◌, ◌≢◌, ◌&&◌, ◌∷◌, ℕ, Bool, true, false, not, cond, All, List, [], Option, Some, None, IsSome, refl, sym, ap, subst, ◌∙◌, inl, inr}
use Rattle.std.proofs.lemmas.Bool.{and_parts, cases_Bool}
use Rattle.std.proofs.lemmas.List.Elements.{All-weaker}
use Rattle.forest.specs.Keys.{Keyed, HasDistinctKeys}
use Rattle.plain_types.specs.declared.edit.Edit.{Edit}
use Rattle.plain_types.specs.declared.node.Node.{Node}
use Rattle.plain_types.specs.declared.style.ElementStyle.{ElementStyle}
use Rattle.plain_types.specs.declared.style.Style.{Style}
use Rattle.node_arena.specs.Nodes.{name_of}
use Rattle.box_eval.specs.declared.inputs.Start.{Start}
use Rattle.box_eval.specs.Evaluation.{element_starts}
use Rattle.box_eval.specs.Starts.{has_starts, no_starts}
use Rattle.generated_texts.specs.Documents.{agent_sheet, document_style}
use Rattle.merged_walk.specs.Merges.{Merge}
use Rattle.merged_walk.specs.Stops.{stops_of}
use Rattle.edit_merge.specs.EditMerges.{is_element}
use Rattle.style_reach.specs.Reaches.{all_features}
use Rattle.style_reach.specs.declared.extent.Reach.TheVariants.{All as Everywhere}
use Rattle.styled_merge.specs.Stays.{HasSameBoxStarts}
use Rattle.styled_merge.specs.StyledMerges.{Styling}
use Rattle.styled_merge.proofs.KeptLaws.{new-whole, old-whole, unturned-whole}
use Rattle.styled_merge.proofs.StartLaws.{starts-by-boxes}
use Rattle.edit_work.specs.Inputs.{differs}
use Rattle.edit_work.specs.KeyedSources.{KeyedSource, author, is_among, own_starts, table}
use Rattle.edit_work.specs.Laws.{Leads}
use Rattle.edit_work.specs.Work.{edit_reach}
use Rattle.start_reach.specs.Laws.{AreTurned}
use Rattle.start_reach.specs.SecondMerges.{first_merge}
use Rattle.start_reach.specs.TurnedElements.{HasSameStartsUnder, stays}
use Rattle.start_reach.proofs.LawLemmas.{edits, merges, same-styles}
use Rattle.start_reach.proofs.WorkLemmas.{other_starts_differ}
use Rattle.turned_stops.specs.Coming.{coming_at_stops}
use Rattle.counter_index.specs.declared.index.CounterIndex.{CounterIndex}
use Rattle.counter_index.specs.Indexes.{asked_at, asked_by, starts_at, with_values}
use Rattle.counter_index.specs.Retold.{other_keys}
use Rattle.touched_starts.specs.Laws.{IsIndexOf, TurnedAreTold, WereExchanged, turned_keys}
use Rattle.touched_starts.proofs.AskedLemmas.{HasItsStarts, whole-starts}
use Rattle.touched_starts.proofs.IndexedDeeds.{nothing-kept}
use Rattle.touched_starts.proofs.IndexedNodes.{told-starts}
use Rattle.touched_starts.proofs.InputNodes.{HasInputs, whole-has}
use Rattle.touched_starts.proofs.KeptNodes.{KeptAt, KeptNode, OfKept, all-same, kept-at, of-kept}
use Rattle.touched_starts.proofs.MovedLemmas.{stays-coming}
use Rattle.touched_starts.proofs.NodeFacts.{OfNodes, of-both}
use Rattle.touched_starts.proofs.OtherLemmas.{HasOther, all-other, all-passing, among-passing, others-same}

no-starts : (starts : List Start) → has_starts starts ≡ false → starts ≡ []
no-starts [] none = refl
no-starts (start ∷ starts) none = absurd (cc none)

-- What is true of the nodes of a document.
module _ (source : KeyedSource) (index : CounterIndex) (is : IsIndexOf source index) (distinct : HasDistinctKeys source.tree) where
  abbrev style : Styling
  style = document_style (author source) source.tree

  pub record IsKnown (b : Bool) (p : Option Style) (n : Keyed Node) : Type 0 where
    pub starts : HasItsStarts (table source) style source.tree index is b p n
    pub inputs : HasInputs (table source) style (own_starts source) source.tree distinct b p n

  pub all-known : OfNodes style IsKnown true None source.tree
  all-known =
      of-both style (HasItsStarts (table source) style source.tree index is) (HasInputs (table source) style (own_starts source) source.tree distinct) IsKnown
      (λ b p n starts inputs. record { starts = starts; inputs = inputs }) source.tree true None
      (whole-starts (table source) style source.tree index is distinct) (whole-has (table source) style (own_starts source) source.tree distinct)

  -- it has the starts of an element whose parent has a box
  pub knows-starts : (b : Bool) (p : Option Style) (n : Keyed Node) → IsKnown b p n → is_element n.label ≡ true → b ≡ true → starts_at index n.key ≡ element_starts (own_starts source) n.key (style n.key p)
  knows-starts b p n known element boxed =
      is.starts n.key
      ∙ ap (with_values (own_starts source)) (known.starts.asks element ∙ ap (λ b. cond b (element_starts no_starts n.key (style n.key p)) []) boxed)
      ∙ told-starts (own_starts source) n.key (style n.key p)

  -- and none of one that asks for none
  pub lacks-starts : (k : ℕ) → asked_at index k ≡ [] → starts_at index k ≡ []
  lacks-starts k none = is.starts k ∙ ap (with_values (own_starts source)) none

module _ (edit : Edit) (before after : KeyedSource) (leads : Leads edit before after) (other : edit_reach edit before after ≢ Everywhere)
    (was now : CounterIndex) (was_is : IsIndexOf before was) (now_is : IsIndexOf after now)
    (former : List (ℕ × Option (List Start))) (exchanged : WereExchanged former was now) where
  abbrev old : Styling
  old = document_style (author before) before.tree

  abbrev new : Styling
  new = document_style (author after) after.tree

  abbrev its : Merge Node
  its = first_merge edit before after

  abbrev coming : List ℕ
  coming = coming_at_stops after.tree (stops_of is_element 0 its)

  abbrev keys : List ℕ
  keys = turned_keys now former coming

  abbrev is_turned : ℕ → Bool
  is_turned k = has_starts (asked_at now k) && not (is_among coming k)

  abbrev Was : Bool → Option Style → Keyed Node → Type 0
  Was = IsKnown before was was_is leads.done.before.distinct

  abbrev Is : Bool → Option Style → Keyed Node → Type 0
  Is = IsKnown after now now_is leads.done.after.distinct

  abbrev Both : Bool → Option Style → Keyed Node → Type 0
  Both = KeptNode old new its Was Is

  all-kept : OfKept old new its Was Is true None its
  all-kept =
      let looks = all_features agent_sheet (author before) in
      let done = edits edit before after leads in
      let merged = merges edit before after leads in
      of-kept old new its Was Is its true None (unturned-whole edit before.tree after.tree done merged looks) (same-styles edit before after leads)
      (subst (λ tree. OfNodes old Was true None tree) (sym (old-whole edit before.tree after.tree done merged looks)) (all-known before was was_is leads.done.before.distinct))
      (subst (λ tree. OfNodes new Is true None tree) (sym (new-whole edit before.tree after.tree done merged looks)) (all-known after now now_is leads.done.after.distinct))
      (λ k at. at)

  -- An element that is kept.
  module _ (b : Bool) (p : Option Style) (n : Keyed Node) (element : is_element n.label ≡ true) (both : Both b p n) where
    same-asked : asked_at was n.key ≡ asked_at now n.key
    same-asked =
        both.was.starts.asks element
        ∙ ap (λ (s : ElementStyle). cond b (element_starts no_starts n.key s) []) (both.style p)
        ∙ sym (both.is.starts.asks element)

    not-coming : is_among coming n.key ≡ false
    not-coming = no-not (is_among coming n.key) (sym (stays-coming edit before after leads n.key (both.is.starts.stays.named element)) ∙ both.there)
      where
        no-not : (c : Bool) → not c ≡ true → c ≡ false
        no-not true h = absurd (cc h)
        no-not false h = refl

    -- it has the starts that it had, where it is not turned
    same-starts : is_among keys n.key ≡ false → starts_at now n.key ≡ starts_at was n.key
    same-starts unturned = by-among (is_among (other_keys now former) n.key) refl
      where
        no-asked : has_starts (asked_at now n.key) ≡ false → starts_at now n.key ≡ starts_at was n.key
        no-asked none =
            let nothing = no-starts (asked_at now n.key) none in
            lacks-starts after now now_is leads.done.after.distinct n.key nothing ∙ sym (lacks-starts before was was_is leads.done.before.distinct n.key (same-asked ∙ nothing))

        and-true : (x y : Bool) → (x && not y) ≡ false → y ≡ false → x ≡ false
        and-true true true h none = absurd (cc none)
        and-true true false h none = absurd (cc h)
        and-true false y h none = refl

        and-last : (x : Bool) → (x && true) ≡ false → x ≡ false
        and-last true h = absurd (cc h)
        and-last false h = refl

        by-among : (among : Bool) → is_among (other_keys now former) n.key ≡ among → starts_at now n.key ≡ starts_at was n.key
        by-among false is = others-same former was now exchanged n.key is
        by-among true is =
            let fails : is_turned n.key ≡ false =
            and-last (is_turned n.key) (sym (ap (λ b. is_turned n.key && b) is) ∙ sym (among-passing is_turned (other_keys now former) n.key) ∙ unturned) in
            no-asked (and-true (has_starts (asked_at now n.key)) (is_among coming n.key) fails not-coming)

    -- so it is with those that its style asks for
    same-under : is_among keys n.key ≡ false → HasSameStartsUnder new (own_starts before) (own_starts after) p n.key
    same-under unturned = elim (cases_Bool b) [
      | inl boxed ↦
          ap (element_starts (own_starts before) n.key) (sym (both.style p))
          ∙ sym (knows-starts before was was_is leads.done.before.distinct b p n both.was element boxed)
          ∙ sym (same-starts unturned)
          ∙ knows-starts after now now_is leads.done.after.distinct b p n both.is element boxed
      | inr none ↦
          starts-by-boxes (own_starts before) (own_starts after) new n.key
          (λ which name. both.was.starts.stays.zero none which name ∙ sym (both.is.starts.stays.zero none which name)) p
    ]

    -- Where it is turned its parent has a box, and it has other starts.

    boxed-turned : has_starts (asked_at now n.key) ≡ true → b ≡ true
    boxed-turned asks = elim (cases_Bool b) [
      | inl boxed ↦ boxed
      | inr none ↦ absurd (let nothing : asked_at now n.key ≡ [] = both.is.starts.asks element ∙ ap (λ b. cond b (element_starts no_starts n.key (new n.key p)) []) none in
          let never : true ≡ false = sym asks ∙ ap has_starts nothing in cc never)
    ]

    other-boxes : HasOther former was now exchanged n.key → has_starts (asked_at now n.key) ≡ true → HasSameBoxStarts (own_starts before) (own_starts after) n.key → ⊥
    other-boxes apart asks same =
        let boxed = boxed-turned asks in
        apart
        (knows-starts after now now_is leads.done.after.distinct b p n both.is element boxed
        ∙ sym (starts-by-boxes (own_starts before) (own_starts after) new n.key same p)
        ∙ ap (element_starts (own_starts before) n.key) (sym (both.style p))
        ∙ sym (knows-starts before was was_is leads.done.before.distinct b p n both.was element boxed))

    other-inputs : HasOther former was now exchanged n.key → has_starts (asked_at now n.key) ≡ true → differs before after n.key ≡ true
    other-inputs apart asks =
        let boxed = boxed-turned asks in
        let had = both.was.inputs element boxed in
        let has = both.is.inputs element boxed in
        other_starts_differ before after n.key had.0 has.0 had.1 has.1
        (λ same.
        apart
        (knows-starts after now now_is leads.done.after.distinct b p n both.is element boxed
        ∙ sym has.2 ∙ sym same ∙ had.2
        ∙ sym (knows-starts before was was_is leads.done.before.distinct b p n both.was element boxed)))

  -- An element that is turned.

  abbrev Found : ℕ → Type 0
  Found k = HasOther former was now exchanged k × (is_turned k ≡ true)

  all-found : All Found keys
  all-found = all-passing (HasOther former was now exchanged) is_turned (other_keys now former) (all-other former was now exchanged)

  asks-named : (k : ℕ) → has_starts (asked_at now k) ≡ true → (name : Option (List ℕ)) → name_of after.tree k ≡ name → IsSome name
  asks-named k asks (Some name) at = refl
  asks-named k asks None at =
      absurd (let nothing : asked_at now k ≡ [] = ap asked_by (nothing-kept (table after) new after.tree leads.done.after.distinct k now now_is.deeds at) in
      let never : true ≡ false = sym asks ∙ ap has_starts nothing in cc never)

  module _ (k : ℕ) (found : Found k) where
    parts : (has_starts (asked_at now k) ≡ true) × (not (is_among coming k) ≡ true)
    parts = and_parts (has_starts (asked_at now k)) (not (is_among coming k)) found.1

    turned-stays : stays is_element k its ≡ true
    turned-stays = stays-coming edit before after leads k (asks-named k parts.0 (name_of after.tree k) refl) ∙ parts.1

    place : KeptAt old new its Was Is k
    place = kept-at old new its Was Is its true None all-kept k turned-stays

    turned-other : HasSameBoxStarts (own_starts before) (own_starts after) k → ⊥
    turned-other same =
        other-boxes place.boxed place.parent place.node place.element place.kept (subst (HasOther former was now exchanged) (sym place.key) found.0)
        (ap (λ key. has_starts (asked_at now key)) place.key ∙ parts.0)
        (subst (HasSameBoxStarts (own_starts before) (own_starts after)) (sym place.key) same)

    turned-differs : differs before after k ≡ true
    turned-differs =
        sym (ap (differs before after) place.key)
        ∙ other-inputs place.boxed place.parent place.node place.element place.kept (subst (HasOther former was now exchanged) (sym place.key) found.0)
        (ap (λ key. has_starts (asked_at now key)) place.key ∙ parts.0)

  are-turned : AreTurned edit before after keys
  are-turned = record {
    stay = All-weaker Found (λ k. stays is_element k its ≡ true) turned-stays keys all-found;
    other = All-weaker Found (λ k. HasSameBoxStarts (own_starts before) (own_starts after) k → ⊥) turned-other keys all-found;
    differ = All-weaker Found (λ k. differs before after k ≡ true) turned-differs keys all-found;
    kept = all-same old new its Was Is (own_starts before) (own_starts after) (is_among keys) (λ b p n element both unturned. same-under b p n element both unturned) its true None all-kept;
  }

pub turned_are_told : TurnedAreTold
turned_are_told edit before after leads other was now was_is now_is former exchanged = are-turned edit before after leads other was now was_is now_is former exchanged
