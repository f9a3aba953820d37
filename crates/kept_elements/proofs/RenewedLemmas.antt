-- What comes to a board by an edit, where the texts are made again of those elements alone that a walk has told of and of those
-- that refer to what it touches.
use Rattle.std.proofs.Common.{◌≡◌, ◌==◌, ◌≤◌, ◌++◌, ◌||◌, ◌⊎◌, ◌∙◌, ℕ, nat_eq, Bool, true, false, cond, List, [], ◌∷◌, length, Option, Some, None, arith, flat_map, refl, sym, subst, ap, ap₂, eqb-true, inl, inr, if◌then◌else◌}
use Rattle.std.specs.Prelude.{All, Contains, IsSome, is_some, option_map}
use Rattle.std.specs.FinMap.{FinMap, get}
use Rattle.std.specs.List.{AllByRecursion, IsDistinct, filter_map, list_any}
use Rattle.std.specs.Option.{option_and_then, option_eq, option_map_or, option_or}
use Rattle.std.specs.Ordering.{nat_cmp}
use Rattle.std.proofs.lemmas.Bool.{cases_Bool, or_parts, true≢false}
use Rattle.std.proofs.lemmas.List.Elements.{All-append, All-cons, All-contains, All-contains_itself, All-head, All-nil, All-tail, All-weaker}
use Rattle.std.proofs.lemmas.List.{length-map}
use Rattle.std.proofs.lemmas.Option.{none-some, same_Some}
use Rattle.forest.specs.Forest.{Forest}
use Rattle.forest.specs.Keys.{Keyed}
use Rattle.plain_types.specs.declared.content.Part.{Part}
use Rattle.plain_types.specs.declared.content.Part.TheVariants.{Content, Before, After}
use Rattle.plain_types.specs.declared.counter.Counter.{Counter}
use Rattle.plain_types.specs.declared.counter_style.CounterStyle.{CounterStyle}
use Rattle.plain_types.specs.declared.node.Node.{Node}
use Rattle.node_arena.specs.Nodes.{name_of}
use Rattle.content_eval.specs.declared.generated.Piece.{Piece}
use Rattle.content_eval.specs.Targets.{Known, reference}
use Rattle.content_eval.specs.TargetLaws.{AgreeBelow, AgreeOn, OfEachReference}
use Rattle.content_eval.proofs.ReferenceLemmas.{flat_depends, full_depends}
use Rattle.box_eval.specs.declared.element_record.ElementRecord.{ElementRecord}
use Rattle.box_eval.specs.declared.made.Made.{Made}
use Rattle.box_pieces.specs.BoxPieces.{has_urls, pieces_of, pieces_with_urls}
use Rattle.generated_texts.specs.declared.entry.BoxText.{BoxText}
use Rattle.generated_texts.specs.declared.entry.NodeEntry.{NodeEntry}
use Rattle.generated_texts.specs.Entries.{box_text, node_entry}
use Rattle.generated_texts.specs.References.{asked_box, first_holder, kept_at, known_targets, known_to_flat_texts}
use Rattle.merged_walk.specs.Entries.{AreAmong, Covers, first_at}
use Rattle.merged_walk.specs.Merges.{Merge}
use Rattle.surroundings.specs.declared.told.Told.{Told}
use Rattle.edit_work.specs.KeyedSources.{is_among, references_of}
use Rattle.reference_reach.specs.ChangedTargets.{Evaluated, has_changed_target, has_referring_target, references_at, refers, refers_through}
use Rattle.reference_reach.specs.Laws.{LeadsBy}
use Rattle.reference_reach.specs.MergedNodes.{entered_elements}
use Rattle.reference_reach.proofs.LawLemmas.{entries_stay, flat_texts_stay}
use Rattle.referring_elements.specs.Found.{is_named}
use Rattle.referring_elements.specs.References.{AreOnce, said_of}
use Rattle.kept_elements.specs.declared.flat_texts.FlatTexts.{FlatTexts}
use Rattle.kept_elements.specs.declared.kept.Kept.{Kept}
use Rattle.kept_elements.specs.declared.kept_change.KeptChange.{KeptChange}
use Rattle.kept_elements.specs.Changes.{AreChanges, Renews, puts_of}
use Rattle.kept_elements.specs.Evaluations.{all_kept_of, kept_of}
use Rattle.kept_elements.specs.Known.{all_flat_texts_of, flat_in, flat_text_of, flat_texts_of}
use Rattle.kept_elements.specs.Renewals.{TellsOfEdit, is_told}
use Rattle.kept_elements.specs.Machinery.Renewals.{again, its_counters, its_flat, kept_flat, known_again, known_below, names, renewed_kept, some_names, told_again, with_again}
use Rattle.kept_elements.proofs.AgainLemmas.{Tells, again_tells, all-again, kept-append, no_more_keys, own, tells_itself, told_counters}
use Rattle.kept_elements.proofs.ChangeLemmas.{HasKeysOnce, some-kept, some_of}
use Rattle.kept_elements.proofs.HolderNames.{holder_named}
use Rattle.kept_elements.proofs.KnownLemmas.{kept_mapped}
use Rattle.kept_elements.proofs.NoReferences.{without_urls}
use Rattle.kept_elements.proofs.RenewalLemmas.{at_first, kept_there, key_there, once_there, renews}

-- What holds of each reference of an element.

module _ (P : List ℕ → Type 0) where
  parts : (xs ys : List (List ℕ)) → AllByRecursion P (xs ++ ys) → AllByRecursion P xs × AllByRecursion P ys
  parts [] ys all = (tt, all)
  parts (x ∷ xs) ys all = let rest = parts xs ys all.1 in ((all.0, rest.0), rest.1)

  everywhere : ((id : List ℕ) → P id) → (xs : List (List ℕ)) → AllByRecursion P xs
  everywhere each [] = tt
  everywhere each (x ∷ xs) = (each x, everywhere each xs)

  of_pieces : (pieces : List Piece) → AllByRecursion P (filter_map reference pieces) → OfEachReference P pieces
  of_pieces [] all = tt
  of_pieces (piece ∷ pieces) all = by (reference piece) refl (of_pieces pieces)
    where
      by : (o : Option (List ℕ)) → reference piece ≡ o → (AllByRecursion P (filter_map reference pieces) → OfEachReference P pieces) → OfEachReference P (piece ∷ pieces)
      by None e rest = (rw e tt, rest (rw e at all))
      by (Some id) e rest = let both : P id × AllByRecursion P (filter_map reference pieces) = rw e at all in (rw e both.0, rest both.1)

  abbrev OfBox : Option Made → Type 0
  OfBox None = Unit {0}
  OfBox (Some made) = OfEachReference P made.pieces

  in_box : (made : Option Made) → AllByRecursion P (option_map_or (λ (box : Made). filter_map reference box.pieces) made []) → OfBox made
  in_box None all = tt
  in_box (Some made) all = of_pieces made.pieces all

  record OfBoxes (said : ElementRecord) : Type 0 where
    marker : OfBox said.marker
    before : OfBox said.before
    after : OfBox said.after

  boxes : (said : ElementRecord) → AllByRecursion P (references_of said) → OfBoxes said
  boxes said all =
      let first = parts (option_map_or (λ (box : Made). filter_map reference box.pieces) said.marker []) _ all in
      let last = parts (option_map_or (λ (box : Made). filter_map reference box.pieces) said.before []) _ first.1 in
      record { marker = in_box said.marker first.0; before = in_box said.before last.0; after = in_box said.after last.1 }

  asked : (said : ElementRecord) (part : Part) → OfBoxes said → OfBox (asked_box said part)
  asked said Content all = tt
  asked said Before all = all.before
  asked said After all = all.after

weaker : (P Q : List ℕ → Type 0) → ((id : List ℕ) → P id → Q id) → (xs : List (List ℕ)) → AllByRecursion P xs → AllByRecursion Q xs
weaker P Q so [] all = tt
weaker P Q so (x ∷ xs) all = (so x all.0, weaker P Q so xs all.1)

none_of : (p : List ℕ → Bool) (xs : List (List ℕ)) → list_any p xs ≡ false → AllByRecursion (λ id. p id ≡ false) xs
none_of p [] none = tt
none_of p (x ∷ xs) none = let each = or_parts (p x) (list_any p xs) none in (each.0, none_of p xs each.1)

module _ (table : List CounterStyle) (one other : Known) where
  box_flat : (made : Option Made) → OfBox (AgreeBelow one other) made → option_map (flat_text_of table one) made ≡ option_map (flat_text_of table other) made
  box_flat None all = refl
  box_flat (Some made) all = ap (λ (text : List ℕ). Some text) (flat_depends table made.pieces one other all)

  box_same : (made : Option Made) → OfBox (AgreeBelow one other) made → OfBox (AgreeOn one other) made → option_map (box_text table one) made ≡ option_map (box_text table other) made
  box_same None below all = refl
  box_same (Some made) below all =
      ap₂ (λ (flat full : List ℕ). Some (record { flat = flat; full = full }))
      (flat_depends table made.pieces one other below) (full_depends table made.pieces one other all)

  entry_depends : (said : ElementRecord) → AllByRecursion (AgreeOn one other) (references_of said) → node_entry table one said ≡ node_entry table other said
  entry_depends said all =
      let on = boxes (AgreeOn one other) said all in
      let below = boxes (AgreeBelow one other) said (weaker (AgreeOn one other) (AgreeBelow one other) (λ id agree. agree.below) (references_of said) all) in
      let made : Option BoxText → Option BoxText → Option BoxText → NodeEntry = λ marker before after. record {
        has_box = said.has_box;
        own = said.own;
        exit = said.exit;
        depth_before = said.depth_before;
        depth_after = said.depth_after;
        marker = marker;
        before = before;
        after = after;
      } in
      ap (λ marker. made marker (option_map (box_text table one) said.before) (option_map (box_text table one) said.after)) (box_same said.marker below.marker on.marker)
      ∙ ap (λ before. made (option_map (box_text table other) said.marker) before (option_map (box_text table one) said.after)) (box_same said.before below.before on.before)
      ∙ ap (λ after. made (option_map (box_text table other) said.marker) (option_map (box_text table other) said.before) after) (box_same said.after below.after on.after)

module _ (table : List CounterStyle) (known : Known) where
  -- the flat text of a box that is asked for

  asked_flat : (said : ElementRecord) (part : Part) → flat_in (flat_texts_of table known said) part ≡ option_map (flat_text_of table known) (asked_box said part)
  asked_flat said Content = refl
  asked_flat said Before = refl
  asked_flat said After = refl

  fused : (made : Option Made) → option_map (λ (text : BoxText). text.flat) (option_map (box_text table known) made) ≡ option_map (flat_text_of table known) made
  fused None = refl
  fused (Some made) = refl

  kept_asked : (said : ElementRecord) (part : Part) → kept_flat (node_entry table known said) part ≡ option_map (flat_text_of table known) (asked_box said part)
  kept_asked said Content = refl
  kept_asked said Before = fused said.before
  kept_asked said After = fused said.after

-- Lists under keys.

any_at : (p : Told → Bool) (xs : List (ℕ × Told)) (key : ℕ) (told : Told) → kept_at xs key ≡ Some told → p told ≡ true → list_any (λ (element : ℕ × Told). p element.1) xs ≡ true
any_at p xs key told is does = there xs (kept_there xs key told is)
  where
    or_right : (a b : Bool) → b ≡ true → (a || b) ≡ true
    or_right true b h = refl
    or_right false b h = h

    there : (xs : List (ℕ × Told)) → Contains xs (key, told) → list_any (λ (element : ℕ × Told). p element.1) xs ≡ true
    there xs among = elim (cases_Bool (list_any (λ (element : ℕ × Told). p element.1) xs)) [
      | inl some ↦ some
      | inr none ↦ absurd (true≢false (sym does ∙ All-contains (λ (element : ℕ × Told). p element.1 ≡ false) xs (key, told) (all xs none) among))
    ]
      where
        all : (xs : List (ℕ × Told)) → list_any (λ (element : ℕ × Told). p element.1) xs ≡ false → All (λ (element : ℕ × Told). p element.1 ≡ false) xs
        all [] none = All-nil (λ (element : ℕ × Told). p element.1 ≡ false)
        all (x ∷ xs) none =
            let each = or_parts (p x.1) (list_any (λ (element : ℕ × Told). p element.1) xs) none in
            All-cons (λ (element : ℕ × Told). p element.1 ≡ false) x xs each.0 (all xs each.1)

first_none : (a b : Option Told) → option_or a b ≡ None → a ≡ None
first_none None b e = refl
first_none (Some x) b e = absurd (none-some x (sym e))

then_none : (a b : Option Told) → option_or a b ≡ None → b ≡ None
then_none None b e = e
then_none (Some x) b e = absurd (none-some x (sym e))

pub chosen : (b : Bool) (o : Option Told) (t : Told) → cond b o None ≡ Some t → (b ≡ true) × (o ≡ Some t)
chosen true o t e = (refl, e)
chosen false o t e = absurd (none-some t e)

no_choice : (b : Bool) (o : Option Told) (t : Told) → o ≡ Some t → cond b o None ≡ None → b ≡ false
no_choice true o t is none = absurd (none-some t (sym none ∙ is))
no_choice false o t is none = refl

pub once_keys : (told : List (ℕ × Told)) → AreOnce told → HasKeysOnce told
once_keys [] once = tt
once_keys (element ∷ told) once = (once.0, once_keys told once.1)

-- what was caught is told
pub caught_there : (caught is : List (ℕ × Told)) → AreOnce is → AreAmong caught is → (key : ℕ) (t : Told) → kept_at caught key ≡ Some t → kept_at is key ≡ Some t
caught_there caught is once among key t e = once_there is (once_keys is once) (key, t) (All-contains (Contains is) caught (key, t) among (kept_there caught key t e))

module _ (table : List CounterStyle) (merge : Merge Node) (old new : Forest (Keyed Node)) (was is caught : List (ℕ × Told)) (held : FinMap nat_cmp Kept) (visited first second : List ℕ)
    (r : TellsOfEdit table merge old new was is caught held visited first second) where
  abbrev before : Evaluated
  before = record { tree = old; said = said_of was }

  abbrev after : Evaluated
  after = record { tree = new; said = said_of is }

  abbrev changed : List ℕ
  changed = visited ++ entered_elements merge

  abbrev known_before : Known
  known_before = known_targets table old (said_of was)

  abbrev known_after : Known
  known_after = known_targets table new (said_of is)

  abbrev flat_after : Known
  flat_after = known_to_flat_texts table new (said_of is)

  abbrev some : List (ℕ × Told)
  some = with_again held caught first

  abbrev all : List (ℕ × Told)
  all = with_again held some second

  -- Each element is caught, or told as before.

  caught_told : (key : ℕ) (t : Told) → kept_at is key ≡ Some t → (kept_at caught key ≡ Some t) ⊎ ((kept_at caught key ≡ None) × (kept_at was key ≡ Some t))
  caught_told key t there = by (kept_at caught key) refl
    where
      by : (o : Option Told) → kept_at caught key ≡ o → (kept_at caught key ≡ Some t) ⊎ ((kept_at caught key ≡ None) × (kept_at was key ≡ Some t))
      by (Some c) e = inl (e ∙ sym (once_there is (once_keys is r.walk.once) (key, c) (All-contains (Contains is) caught (key, c) r.walk.among (kept_there caught key c e))) ∙ there)
      by None e = elim (All-contains (λ (one : ℕ × Told). Contains caught one ⊎ (first_at was one.0 ≡ Some one.1)) is (key, t) r.walk.covers (kept_there is key t there)) [
        | inl c ↦ absurd (true≢false (sym (key_there caught (key, t) c) ∙ sym (some-kept key caught) ∙ ap (λ (o : Option Told). is_some o) e))
        | inr w ↦ inr (e, sym (at_first was key) ∙ w)
      ]

  told_none : (key : ℕ) → kept_at caught key ≡ None → is_told caught key ≡ false
  told_none key e = sym (some-kept key caught) ∙ ap (λ (o : Option Told). is_some o) e

  abbrev said_in : Told → ElementRecord
  said_in told = told.said

  pub leads : LeadsBy merge visited before after
  leads = record {
    merges = r.walk.merges;
    distinct_before = r.walk.distinct_before;
    distinct_after = r.walk.distinct_after;
    others = λ key live apart.
        let t = some_of (kept_at is key) (r.walk.named key ∙ live) in
        elim (caught_told key t.0 t.1) [
          | inl c ↦ absurd (true≢false (ap (λ (o : Option Told). is_some o) (sym c) ∙ some-kept key caught ∙ sym (r.visited_are key) ∙ apart))
          | inr w ↦ kept_mapped said_in is key ∙ ap (option_map said_in) (t.1 ∙ sym w.1) ∙ sym (kept_mapped said_in was key)
        ];
  }

  -- What is held of an element that was told so.

  holding : (key : ℕ) (t : Told) → kept_at was key ≡ Some t → get held key ≡ Some (kept_of table known_before t)
  holding key t e = r.walk.held_are key ∙ ap (option_map (kept_of table known_before)) e

  own_told : (key : ℕ) (t : Told) → kept_at was key ≡ Some t → has_urls t.said ≡ true → own held key ≡ Some (told_again (kept_of table known_before t) (pieces_of t.said))
  own_told key t e does =
      ap (λ (o : Option Kept). option_and_then (λ (kept : Kept). option_map (told_again kept) kept.pieces) o) (holding key t e)
      ∙ ap (λ (b : Bool). option_map (told_again (kept_of table known_before t)) (if b then Some (pieces_of t.said) else None)) does

  own_none : (key : ℕ) (t : Told) → kept_at was key ≡ Some t → has_urls t.said ≡ false → own held key ≡ None
  own_none key t e lacks =
      ap (λ (o : Option Kept). option_and_then (λ (kept : Kept). option_map (told_again kept) kept.pieces) o) (holding key t e)
      ∙ ap (λ (b : Bool). option_map (told_again (kept_of table known_before t)) (if b then Some (pieces_of t.said) else None)) lacks

  pub own_tells : (key : ℕ) (t a : Told) → kept_at was key ≡ Some t → own held key ≡ Some a → Tells table a t
  own_tells key t a e its = elim (cases_Bool (has_urls t.said)) [
    | inl does ↦ subst (λ (one : Told). Tells table one t) (same_Some _ a (sym (own_told key t e does) ∙ its)) (again_tells table known_before t)
    | inr lacks ↦ absurd (none-some a (sym (own_none key t e lacks) ∙ its))
  ]

  -- The references of an element.

  at_after : (p : List ℕ → Bool) (key : ℕ) (o : Option Told) → kept_at is key ≡ o → list_any p (references_at after key) ≡ list_any p (option_map_or (λ (t : Told). references_of t.said) o [])
  at_after p key o e =
      ap (λ (s : Option ElementRecord). list_any p (option_map_or references_of s [])) (kept_mapped said_in is key ∙ ap (option_map said_in) e)
      ∙ by o
    where
      by : (o : Option Told) → list_any p (option_map_or references_of (option_map said_in o) []) ≡ list_any p (option_map_or (λ (t : Told). references_of t.said) o [])
      by None = refl
      by (Some t) = refl

  refers_some : (p : List ℕ → Bool) (key : ℕ) → list_any p (references_at after key) ≡ true → (t : Told) × (kept_at is key ≡ Some t) × (list_any p (references_of t.said) ≡ true)
  refers_some p key does = by (kept_at is key) refl
    where
      by : (o : Option Told) → kept_at is key ≡ o → (t : Told) × (kept_at is key ≡ Some t) × (list_any p (references_of t.said) ≡ true)
      by None e = absurd (true≢false (sym does ∙ at_after p key None e))
      by (Some t) e = (t, e, sym (at_after p key (Some t) e) ∙ does)

  with_references : (p : List ℕ → Bool) (said : ElementRecord) → list_any p (references_of said) ≡ true → has_urls said ≡ true
  with_references p said does = elim (cases_Bool (has_urls said)) [
    | inl has ↦ has
    | inr lacks ↦ absurd (true≢false (sym does ∙ ap (list_any p) (without_urls said lacks)))
  ]

  -- What is told of elements, and told again.

  some_at : (key : ℕ) → kept_at some key ≡ option_or (kept_at caught key) (cond (is_among first key) (own held key) None)
  some_at key = kept-append caught (flat_map (again held) first) key ∙ ap (option_or (kept_at caught key)) (all-again held first key)

  all_at : (key : ℕ) → kept_at all key ≡ option_or (kept_at some key) (cond (is_among second key) (own held key) None)
  all_at key = kept-append some (flat_map (again held) second) key ∙ ap (option_or (kept_at some key)) (all-again held second key)

  module _ (key : ℕ) (t : Told) (there : kept_at is key ≡ Some t) where
    was_there : kept_at caught key ≡ None → kept_at was key ≡ Some t
    was_there none = elim (caught_told key t there) [ inl c ↦ absurd (none-some t (sym none ∙ c)) | inr w ↦ w.1 ]

    chosen_tells : (b : Bool) (a : Told) → kept_at caught key ≡ None → cond b (own held key) None ≡ Some a → Tells table a t
    chosen_tells b a none e = own_tells key t a (was_there none) (chosen b (own held key) a e).1

    some_tells : (a : Told) → kept_at some key ≡ Some a → Tells table a t
    some_tells a e = by (kept_at caught key) refl
      where
        by : (o : Option Told) → kept_at caught key ≡ o → Tells table a t
        by (Some c) is =
            let same : a ≡ t = elim (caught_told key t there) [
              | inl same ↦ same_Some a t (sym e ∙ some_at key ∙ ap (λ o. option_or o (cond (is_among first key) (own held key) None)) same)
              | inr w ↦ absurd (none-some c (sym w.0 ∙ is))
            ] in
            subst (λ (one : Told). Tells table one t) (sym same) (tells_itself table t)
        by None is = chosen_tells (is_among first key) a is (ap (λ o. option_or o (cond (is_among first key) (own held key) None)) (sym is) ∙ sym (some_at key) ∙ e)

    missing_caught : kept_at some key ≡ None → kept_at caught key ≡ None
    missing_caught none = first_none (kept_at caught key) (cond (is_among first key) (own held key) None) (sym (some_at key) ∙ none)

    all_tells : (a : Told) → kept_at all key ≡ Some a → Tells table a t
    all_tells a e = by (kept_at some key) refl
      where
        by : (o : Option Told) → kept_at some key ≡ o → Tells table a t
        by (Some c) is = some_tells a (is ∙ ap (λ o. option_or o (cond (is_among second key) (own held key) None)) (sym is) ∙ sym (all_at key) ∙ e)
        by None is = chosen_tells (is_among second key) a (missing_caught is) (ap (λ o. option_or o (cond (is_among second key) (own held key) None)) (sym is) ∙ sym (all_at key) ∙ e)

    -- one that refers so has its pieces
    has_own : (p : List ℕ → Bool) → kept_at caught key ≡ None → list_any p (references_at after key) ≡ true → own held key ≡ Some (told_again (kept_of table known_before t) (pieces_of t.said))
    has_own p none does = own_told key t (was_there none) (with_references p t.said (sym (at_after p key (Some t) there) ∙ does))

    missing_first : kept_at some key ≡ None → refers before after changed key ≡ false
    missing_first none = elim (cases_Bool (refers before after changed key)) [
      | inl does ↦ absurd (true≢false (sym (r.first_are key ∙ does)
          ∙ no_choice (is_among first key) (own held key) _ (has_own (has_changed_target before after changed) (missing_caught none) does)
          (then_none (kept_at caught key) (cond (is_among first key) (own held key) None) (sym (some_at key) ∙ none))))
      | inr lacks ↦ lacks
    ]

    missing_some : kept_at all key ≡ None → kept_at some key ≡ None
    missing_some none = first_none (kept_at some key) (cond (is_among second key) (own held key) None) (sym (all_at key) ∙ none)

    missing_second : kept_at all key ≡ None → refers_through before after changed key ≡ false
    missing_second none = elim (cases_Bool (refers_through before after changed key)) [
      | inl does ↦ absurd (true≢false (sym (r.second_are key ∙ does)
          ∙ no_choice (is_among second key) (own held key) _ (has_own (has_referring_target before after changed) (missing_caught (missing_some none)) does)
          (then_none (kept_at some key) (cond (is_among second key) (own held key) None) (sym (all_at key) ∙ none))))
      | inr lacks ↦ lacks
    ]

  -- of elements alone
  told_there : (key : ℕ) (a : Told) → kept_at all key ≡ Some a → (t : Told) × (kept_at is key ≡ Some t)
  told_there key a e = by (kept_at caught key) refl (kept_at some key) refl
    where
      by : (o : Option Told) → kept_at caught key ≡ o → (s : Option Told) → kept_at some key ≡ s → (t : Told) × (kept_at is key ≡ Some t)
      by (Some c) there s e1 = (c, once_there is (once_keys is r.walk.once) (key, c) (All-contains (Contains is) caught (key, c) r.walk.among (kept_there caught key c there)))
      by None none (Some s) e1 =
          let first_chosen = chosen (is_among first key) (own held key) s (ap (λ o. option_or o (cond (is_among first key) (own held key) None)) (sym none) ∙ sym (some_at key) ∙ e1) in
          let found = refers_some (has_changed_target before after changed) key (sym (r.first_are key) ∙ first_chosen.0) in
          (found.0, found.1)
      by None none None e1 =
          let second_chosen = chosen (is_among second key) (own held key) a (ap (λ o. option_or o (cond (is_among second key) (own held key) None)) (sym e1) ∙ sym (all_at key) ∙ e) in
          let found = refers_some (has_referring_target before after changed) key (sym (r.second_are key) ∙ second_chosen.0) in
          (found.0, found.1)

  pub are_elements : (key : ℕ) → is_told all key ≡ true → IsSome (name_of new key)
  are_elements key does =
      let a = some_of (kept_at all key) (some-kept key all ∙ does) in
      let t = told_there key a.0 a.1 in
      sym (r.walk.named key) ∙ ap (λ (o : Option Told). is_some o) t.1

  -- those that refer are elements

  pub named_first : (key : ℕ) → is_among first key ≡ true → IsSome (name_of new key)
  named_first key among =
      let found = refers_some (has_changed_target before after changed) key (sym (r.first_are key) ∙ among) in
      sym (r.walk.named key) ∙ ap (λ (o : Option Told). is_some o) found.1

  pub named_second : (key : ℕ) → is_among second key ≡ true → IsSome (name_of new key)
  named_second key among =
      let found = refers_some (has_referring_target before after changed) key (sym (r.second_are key) ∙ among) in
      sym (r.walk.named key) ∙ ap (λ (o : Option Told). is_some o) found.1

  -- What is known of the targets.

  module _ (read : ℕ → Option Kept) (read_are : (key : ℕ) → some_names new all key ≡ true → read key ≡ get held key) where
    abbrev below_known : Known
    below_known = known_below new table some all read

    abbrev again_known : Known
    again_known = known_again new table some all read

    abbrev Reached : List ℕ → Type 0
    Reached id = (k : ℕ) → first_holder new id ≡ Some k → read k ≡ get held k

    same_key : (k : ℕ) → nat_eq k k ≡ true
    same_key k = grind arith

    named_so : (k : ℕ) (id : List ℕ) → first_holder new id ≡ Some k → is_named new k id ≡ true
    named_so k id e = ap (λ (o : Option ℕ). option_eq nat_eq o (Some k)) e ∙ same_key k

    each_reached : (ids : List (List ℕ)) → ((k : ℕ) → list_any (is_named new k) ids ≡ true → read k ≡ get held k) → AllByRecursion Reached ids
    each_reached [] seen = tt
    each_reached (id ∷ ids) seen = (
      λ k e. seen k (ap (λ b. b || list_any (is_named new k) ids) (named_so k id e)),
      each_reached ids (λ k does. seen k (or_right (is_named new k id) (list_any (is_named new k) ids) does)),
    )
      where
        or_right : (a b : Bool) → b ≡ true → (a || b) ≡ true
        or_right true b h = refl
        or_right false b h = h

    reached : (key : ℕ) (a t : Told) → kept_at all key ≡ Some a → Tells table a t → AllByRecursion Reached (references_of t.said)
    reached key a t e tells =
        subst (AllByRecursion Reached) tells.references
        (each_reached (references_of a.said) (λ k does. read_are k (any_at (names new k) all key a e does)))

    holder : (id : List ℕ) (k : ℕ) → first_holder new id ≡ Some k → (t : Told) × (kept_at is k ≡ Some t)
    holder id k e = some_of (kept_at is k) (r.walk.named k ∙ holder_named id new k r.walk.distinct_after e)

    held_there : (k : ℕ) (t : Told) → read k ≡ get held k → kept_at was k ≡ Some t → read k ≡ Some (kept_of table known_before t)
    held_there k t does e = does ∙ holding k t e

    its : (k : ℕ) (t : Told) → kept_at is k ≡ Some t → read k ≡ get held k → its_counters (kept_at all k) (read k) ≡ told_counters t
    its k t there does = by (kept_at all k) refl
      where
        by : (o : Option Told) → kept_at all k ≡ o → its_counters (kept_at all k) (read k) ≡ told_counters t
        by (Some a) e = ap (λ (o : Option Told). its_counters o (read k)) e ∙ (all_tells k t there a e).counters
        by None e =
            ap₂ its_counters e (held_there k t does (was_there k t there (missing_caught k t there (missing_some k t there e))))

    counters_agree : (id : List ℕ) → Reached id → option_and_then (λ key. its_counters (kept_at all key) (read key)) (first_holder new id) ≡ known_after.counters id
    counters_agree id reach = by (first_holder new id) refl
      where
        abbrev_counters : ElementRecord → Option (List Counter)
        abbrev_counters element = cond element.has_box (Some element.own) None

        by : (o : Option ℕ) → first_holder new id ≡ o → option_and_then (λ key. its_counters (kept_at all key) (read key)) (first_holder new id) ≡ known_after.counters id
        by None e =
            ap (option_and_then (λ key. its_counters (kept_at all key) (read key))) e
            ∙ sym (ap (λ (o : Option ℕ). option_and_then abbrev_counters (option_and_then (kept_at (said_of is)) o)) e)
        by (Some k) e =
            let t = holder id k e in
            ap (option_and_then (λ key. its_counters (kept_at all key) (read key))) e
            ∙ its k t.0 t.1 (reach k e)
            ∙ sym (ap (λ (o : Option ℕ). option_and_then abbrev_counters (option_and_then (kept_at (said_of is)) o)) e
            ∙ ap (option_and_then abbrev_counters) (kept_mapped said_in is k ∙ ap (option_map said_in) t.1))

    agree_below : (id : List ℕ) → Reached id → AgreeBelow below_known flat_after id
    agree_below id reach = record { counters = counters_agree id reach; characters = refl }

    flat_lookup : (k : ℕ) → kept_at (all_flat_texts_of table below_known some) k ≡ option_map (λ (t : Told). flat_texts_of table below_known t.said) (kept_at some k)
    flat_lookup k = kept_mapped (λ (t : Told). flat_texts_of table below_known t.said) some k

    -- the flat text of a target's box
    target_flat : (k : ℕ) (t : Told) (part : Part) → kept_at is k ≡ Some t → read k ≡ get held k
        → its_flat (kept_at (all_flat_texts_of table below_known some) k) (read k) part ≡ option_map (flat_text_of table flat_after) (asked_box t.said part)
    target_flat k t part there does = by (kept_at some k) refl
      where
        by : (o : Option Told) → kept_at some k ≡ o → its_flat (kept_at (all_flat_texts_of table below_known some) k) (read k) part ≡ option_map (flat_text_of table flat_after) (asked_box t.said part)
        by (Some a) e =
            let tells = some_tells k t there a e in
            let in_all : kept_at all k ≡ Some a = all_at k ∙ ap (λ o. option_or o (cond (is_among second k) (own held k) None)) e in
            ap (λ (o : Option FlatTexts). its_flat o (read k) part) (flat_lookup k ∙ ap (option_map (λ (t : Told). flat_texts_of table below_known t.said)) e)
            ∙ ap (λ (texts : FlatTexts). flat_in texts part) (tells.flats below_known)
            ∙ asked_flat table below_known t.said part
            ∙ box_flat table below_known flat_after (asked_box t.said part)
            (asked (AgreeBelow below_known flat_after) t.said part
            (boxes (AgreeBelow below_known flat_after) t.said (weaker Reached (AgreeBelow below_known flat_after) agree_below (references_of t.said) (reached k a t in_all tells))))
        by None e =
            let before_it = was_there k t there (missing_caught k t there e) in
            let unchanged = none_of (has_changed_target before after changed) (references_of t.said) (sym (at_after (has_changed_target before after changed) k (Some t) there) ∙ missing_first k t there e) in
            ap₂ (λ (o : Option FlatTexts) (h : Option Kept). its_flat o h part) (flat_lookup k ∙ ap (option_map (λ (t : Told). flat_texts_of table below_known t.said)) e) (held_there k t does before_it)
            ∙ kept_asked table known_before t.said part
            ∙ stays (asked_box t.said part)
            (asked (λ id. has_changed_target before after changed id ≡ false) t.said part (boxes (λ id. has_changed_target before after changed id ≡ false) t.said unchanged))
            ∙ box_flat table known_after flat_after (asked_box t.said part)
            (asked (AgreeBelow known_after flat_after) t.said part
            (boxes (AgreeBelow known_after flat_after) t.said (everywhere (AgreeBelow known_after flat_after) (λ id. record { counters = refl; characters = refl }) (references_of t.said))))
          where
            stays : (made : Option Made) → OfBox (λ id. has_changed_target before after changed id ≡ false) made → option_map (flat_text_of table known_before) made ≡ option_map (flat_text_of table known_after) made
            stays None h = refl
            stays (Some made) h = ap (λ (text : List ℕ). Some text) (flat_texts_stay table merge visited before after leads made.pieces h)

    flats_agree : (id : List ℕ) → Reached id → (part : Part) → again_known.flat id part ≡ known_after.flat id part
    flats_agree id reach part = by (first_holder new id) refl
      where
        made_flat : Option ElementRecord → Option (List ℕ)
        made_flat o = option_map (flat_text_of table flat_after) (option_and_then (λ (element : ElementRecord). asked_box element part) o)

        by : (o : Option ℕ) → first_holder new id ≡ o → again_known.flat id part ≡ known_after.flat id part
        by None e =
            ap (option_and_then (λ key. its_flat (kept_at (all_flat_texts_of table below_known some) key) (read key) part)) e
            ∙ sym (ap (λ (o : Option ℕ). made_flat (option_and_then (kept_at (said_of is)) o)) e)
        by (Some k) e =
            let t = holder id k e in
            ap (option_and_then (λ key. its_flat (kept_at (all_flat_texts_of table below_known some) key) (read key) part)) e
            ∙ target_flat k t.0 part t.1 (reach k e)
            ∙ sym (ap (λ (o : Option ℕ). made_flat (option_and_then (kept_at (said_of is)) o)) e
            ∙ ap made_flat (kept_mapped said_in is k ∙ ap (option_map said_in) t.1))

    agree_on : (id : List ℕ) → Reached id → AgreeOn again_known known_after id
    agree_on id reach = record { below = record { counters = counters_agree id reach; characters = refl }; flat = flats_agree id reach }

    -- Entries.

    kept_same : (key : ℕ) (t a : Told) → kept_at is key ≡ Some t → kept_at all key ≡ Some a → kept_of table again_known a ≡ kept_of table known_after t
    kept_same key t a there e =
        let tells = all_tells key t there a e in
        tells.kept again_known
        ∙ ap (λ (entry : NodeEntry). record { entry = entry; walked = t.walked; pieces = pieces_with_urls t.said })
        (entry_depends table again_known known_after t.said (weaker Reached (AgreeOn again_known known_after) agree_on (references_of t.said) (reached key a t e tells)))

    -- what is kept of an element that is not told again is as before
    entry_stays : (key : ℕ) (t : Told) → kept_at is key ≡ Some t → kept_at all key ≡ None → get held key ≡ Some (kept_of table known_after t)
    entry_stays key t there none =
        let missing = missing_some key t there none in
        let nowhere = missing_caught key t there missing in
        let not_visited : is_among visited key ≡ false = r.visited_are key ∙ told_none key nowhere in
        let live : IsSome (name_of new key) = sym (r.walk.named key) ∙ ap (λ (o : Option Told). is_some o) there in
        let before_it = was_there key t there nowhere in
        let same =
        entries_stay table merge visited before after leads key live
        (ap₂ (λ a b. a || b) not_visited (ap₂ (λ a b. a || b) (missing_first key t there missing) (missing_second key t there none))) in
        let entry : node_entry table known_after t.said ≡ node_entry table known_before t.said =
        same_Some _ _ (sym (kept_mapped (node_entry table known_after) (said_of is) key ∙ ap (option_map (node_entry table known_after)) (kept_mapped said_in is key ∙ ap (option_map said_in) there))
        ∙ same
        ∙ kept_mapped (node_entry table known_before) (said_of was) key ∙ ap (option_map (node_entry table known_before)) (kept_mapped said_in was key ∙ ap (option_map said_in) before_it)) in
        holding key t before_it
        ∙ ap (λ (entry : NodeEntry). Some (record { entry = entry; walked = t.walked; pieces = pieces_with_urls t.said })) (sym entry)

    module _ (keys : List ℕ) (keys_are : (key : ℕ) → is_among keys key ≡ is_told all key) (once : IsDistinct nat_eq keys) (changes : List (ℕ × KeptChange))
        (are : AreChanges held (renewed_kept table again_known (kept_at all) keys) changes) where
      abbrev made : List (ℕ × Kept)
      made = renewed_kept table again_known (kept_at all) keys

      abbrev whole : List (ℕ × Kept)
      whole = all_kept_of table known_after is

      abbrev one_of : ℕ → Option Told → List (ℕ × Kept)
      one_of key o = option_map_or (λ (one : Told). (key, kept_of table again_known one) ∷ []) o []

      whole_at : (key : ℕ) (t : Told) → kept_at is key ≡ Some t → Contains whole (key, kept_of table known_after t)
      whole_at key t there = kept_there whole key (kept_of table known_after t) (kept_mapped (kept_of table known_after) is key ∙ ap (option_map (kept_of table known_after)) there)

      one_among : (key : ℕ) (o : Option Told) → kept_at all key ≡ o → AreAmong (one_of key o) whole
      one_among key None e = All-nil (Contains whole)
      one_among key (Some a) e =
          let t = told_there key a e in
          All-cons (Contains whole) (key, kept_of table again_known a) []
          (subst (λ (kept : Kept). Contains whole (key, kept)) (sym (kept_same key t.0 a t.1 e)) (whole_at key t.0 t.1)) (All-nil (Contains whole))

      made_among : (ks : List ℕ) → AreAmong (renewed_kept table again_known (kept_at all) ks) whole
      made_among [] = All-nil (Contains whole)
      made_among (k ∷ ks) = All-append (Contains whole) (one_of k (kept_at all k)) (renewed_kept table again_known (kept_at all) ks) (one_among k (kept_at all k) refl) (made_among ks)

      made_there : (ks : List ℕ) (key : ℕ) (a : Told) → is_among ks key ≡ true → kept_at all key ≡ Some a → kept_at (renewed_kept table again_known (kept_at all) ks) key ≡ Some (kept_of table again_known a)
      made_there [] key a does e = absurd (true≢false (sym does))
      made_there (k ∷ ks) key a does e = kept-append (one_of k (kept_at all k)) (renewed_kept table again_known (kept_at all) ks) key ∙ by (kept_at all k) refl (λ there. made_there ks key a there e)
        where
          by : (o : Option Told) → kept_at all k ≡ o → (is_among ks key ≡ true → kept_at (renewed_kept table again_known (kept_at all) ks) key ≡ Some (kept_of table again_known a)) → option_or (kept_at (one_of k o) key) (kept_at (renewed_kept table again_known (kept_at all) ks) key) ≡ Some (kept_of table again_known a)
          by None none rest = rest (elim (cases_Bool (k == key)) [
            | inl same ↦ absurd (none-some a (sym none ∙ ap (kept_at all) (eqb-true k key same) ∙ e))
            | inr other ↦ ap (λ b. b || is_among ks key) (sym other) ∙ does
          ])
          by (Some x) is rest = elim (cases_Bool (k == key)) [
            | inl same ↦ rw same (ap (λ (t : Told). Some (kept_of table again_known t)) (same_Some x a (sym is ∙ ap (kept_at all) (eqb-true k key same) ∙ e)))
            | inr other ↦ rw other (rest (ap (λ b. b || is_among ks key) (sym other) ∙ does))
          ]

      short : (ks : List ℕ) → length (renewed_kept table again_known (kept_at all) ks) ≤ length ks
      short [] = omega arith
      short (k ∷ ks) = by (kept_at all k) (short ks)
        where
          by : (o : Option Told) → length (renewed_kept table again_known (kept_at all) ks) ≤ length ks → length (one_of k o ++ renewed_kept table again_known (kept_at all) ks) ≤ length (k ∷ ks)
          by None rest = omega (arith, rest)
          by (Some a) rest = omega (arith, rest)

      begun : Renews held made changes
      begun = renews held made changes are

      covered : (one : ℕ × Told) → kept_at is one.0 ≡ Some one.1 → Contains (puts_of changes) (one.0, kept_of table known_after one.1) ⊎ (get held one.0 ≡ Some (kept_of table known_after one.1))
      covered one there = by (kept_at all one.0) refl
        where
          by : (o : Option Told) → kept_at all one.0 ≡ o → Contains (puts_of changes) (one.0, kept_of table known_after one.1) ⊎ (get held one.0 ≡ Some (kept_of table known_after one.1))
          by None e = inr (entry_stays one.0 one.1 there e)
          by (Some a) e =
              let among : is_among keys one.0 ≡ true = keys_are one.0 ∙ sym (some-kept one.0 all) ∙ ap (λ (o : Option Told). is_some o) e in
              subst (λ (kept : Kept). Contains (puts_of changes) (one.0, kept) ⊎ (get held one.0 ≡ Some kept)) (kept_same one.0 one.1 a there e)
              (All-contains (λ (entry : ℕ × Kept). Contains (puts_of changes) entry ⊎ (get held entry.0 ≡ Some entry.1)) made (one.0, kept_of table again_known a) begun.covers
              (kept_there made one.0 (kept_of table again_known a) (made_there keys one.0 a among e)))

      all_covered : (xs : List (ℕ × Told)) → All (λ (one : ℕ × Told). kept_at is one.0 ≡ Some one.1) xs → Covers (puts_of changes) (get held) (all_kept_of table known_after xs)
      all_covered [] there = All-nil (λ (entry : ℕ × Kept). Contains (puts_of changes) entry ⊎ (get held entry.0 ≡ Some entry.1))
      all_covered (x ∷ xs) there =
          All-cons (λ (entry : ℕ × Kept). Contains (puts_of changes) entry ⊎ (get held entry.0 ≡ Some entry.1)) (x.0, kept_of table known_after x.1) (all_kept_of table known_after xs)
          (covered x (All-head (λ (one : ℕ × Told). kept_at is one.0 ≡ Some one.1) x xs there)) (all_covered xs (All-tail (λ (one : ℕ × Told). kept_at is one.0 ≡ Some one.1) x xs there))

      pub few_keys : length keys ≤ length is
      few_keys =
          no_more_keys keys is once
          (λ key does.
          let a = some_of (kept_at all key) (some-kept key all ∙ sym (keys_are key) ∙ does) in
          let t = told_there key a.0 a.1 in
          sym (some-kept key is) ∙ ap (λ (o : Option Told). is_some o) t.1)

      pub renewed : Renews held whole changes
      renewed = record {
        among = All-weaker (Contains made) (Contains whole) (λ one there. All-contains (Contains whole) made one (made_among keys) there) (puts_of changes) begun.among;
        covers = all_covered is (All-weaker (Contains is) (λ (one : ℕ × Told). kept_at is one.0 ≡ Some one.1) (λ one there. once_there is (once_keys is r.walk.once) one there) is (All-contains_itself is));
        others = begun.others;
        shown = begun.shown;
        few =
            let fewer : length changes ≤ length made = begun.few in
            let same : length whole ≡ length is = length-map is (λ (one : ℕ × Told). (one.0, kept_of table known_after one.1)) in
            omega (arith, fewer, short keys, few_keys, same);
      }
