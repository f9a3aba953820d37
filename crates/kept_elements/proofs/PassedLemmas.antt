-- Of what a walk has told, what is of elements that its merge does not enter.
use Rattle.std.proofs.Common.{◌≡◌, ◌==◌, ◌≤◌, ◌+◌, ◌++◌, ◌||◌, ◌∙◌, ◌⊎◌, ℕ, nat_eq, Bool, true, false, not, List, [], ◌∷◌, Some, arith, ap, eq-eqb, inl, inr, length, length-append, map, refl, sym}
use Rattle.std.specs.Prelude.{Contains, IsSome, filter, is_some}
use Rattle.std.specs.FinMap.{FinMap}
use Rattle.std.specs.List.{IsDistinct}
use Rattle.std.specs.Ordering.{nat_cmp}
use Rattle.std.proofs.lemmas.Bool.{cases_Bool, true≢false}
use Rattle.std.proofs.lemmas.List.{length-map}
use Rattle.std.proofs.lemmas.List.Elements.{All-contains}
use Rattle.std.proofs.lemmas.List.Filters.{length-filter_both}
use Rattle.std.proofs.lemmas.Map.Keys.{IsDistinct-cons, IsDistinct-head, IsDistinct-tail}
use Rattle.forest.specs.Forest.{Forest}
use Rattle.forest.specs.Keys.{Keyed, without_keys}
use Rattle.plain_types.specs.declared.counter_style.CounterStyle.{CounterStyle}
use Rattle.plain_types.specs.declared.node.Node.{Node}
use Rattle.node_arena.specs.Nodes.{name_of}
use Rattle.document_walk.specs.Elements.{element_count}
use Rattle.generated_texts.specs.Documents.{agent_sheet}
use Rattle.generated_texts.specs.References.{kept_at}
use Rattle.merged_walk.specs.Entries.{first_at}
use Rattle.merged_walk.specs.Merges.{Merge}
use Rattle.surroundings.specs.declared.told.Told.{Told}
use Rattle.edit_work.specs.KeyedSources.{elements_in, is_among}
use Rattle.reference_reach.specs.MergedNodes.{elements_at_stops, entered_elements}
use Rattle.reference_reach.specs.ToldLaws.{keys_of}
use Rattle.reference_reach.proofs.LawLemmas.{stops_tell_entered}
use Rattle.kept_elements.specs.declared.kept.Kept.{Kept}
use Rattle.kept_elements.specs.Evaluations.{document_kept}
use Rattle.kept_elements.specs.News.{PassedElementsStay, passed_among}
use Rattle.kept_elements.specs.Renewals.{TellsOfWalk}
use Rattle.kept_elements.proofs.AgainLemmas.{apart_of}
use Rattle.kept_elements.proofs.ChangeLemmas.{HasKeysOnce, has_key, some-kept, some_of}
use Rattle.kept_elements.proofs.KeptTold.{left_among, right_among}
use Rattle.kept_elements.proofs.KeyWeights.{element_listed, no_more}
use Rattle.kept_elements.proofs.NewsLemmas.{kept}
use Rattle.kept_elements.proofs.PaidLemmas.{apart_all, none_once}
use Rattle.kept_elements.proofs.RenewalLemmas.{at_first, key_there, kept_there}
use Rattle.kept_elements.proofs.StayingElements.{count-elements, either_among, stays}
use Rattle.kept_elements.proofs.StepLemmas.{keys_told}
use Rattle.kept_elements.proofs.ToldLemmas.{kept_count, kept_keys, kept_once}

-- Keys that come once.

apart : (k : ℕ) (xs : List ℕ) → IsDistinct nat_eq (k ∷ xs) → is_among xs k ≡ false
apart k xs once = elim (cases_Bool (is_among xs k)) [
  | inl there ↦ absurd (true≢false (sym (eq-eqb k k refl) ∙ apart_of k k xs (IsDistinct-head nat_eq k xs once) there))
  | inr absent ↦ absent
]

neither : (k : ℕ) (xs ys : List ℕ) → is_among xs k ≡ false → is_among ys k ≡ false → is_among (xs ++ ys) k ≡ false
neither k xs ys first second = elim (cases_Bool (is_among (xs ++ ys) k)) [
  | inl there ↦ elim (either_among k xs ys there) [
    | inl one ↦ absurd (true≢false (sym one ∙ first))
    | inr other ↦ absurd (true≢false (sym other ∙ second))
  ]
  | inr absent ↦ absent
]

joined : (xs ys : List ℕ) → IsDistinct nat_eq xs → IsDistinct nat_eq ys → ((k : ℕ) → is_among xs k ≡ true → is_among ys k ≡ false) → IsDistinct nat_eq (xs ++ ys)
joined [] ys once others disjoint = others
joined (x ∷ xs) ys once others disjoint =
    IsDistinct-cons nat_eq x (xs ++ ys) (apart_all x (xs ++ ys) (neither x xs ys (apart x xs once) (disjoint x (ap (λ b. b || is_among xs x) (eq-eqb x x refl)))))
    (joined xs ys (IsDistinct-tail nat_eq x xs once) others (λ k there. disjoint k (behind (x == k) (is_among xs k) there)))
  where
    behind : (a b : Bool) → b ≡ true → (a || b) ≡ true
    behind true b there = refl
    behind false b there = there

module _ {V : Type 0} where
  abbrev keys_in : List (ℕ × V) → List ℕ
  keys_in entries = map (λ (entry : ℕ × V). entry.0) entries

  keys-among : (entries : List (ℕ × V)) (k : ℕ) → is_among (keys_in entries) k ≡ has_key k entries
  keys-among [] k = refl
  keys-among (entry ∷ entries) k = ap (λ b. (entry.0 == k) || b) (keys-among entries k)

  keys-once : (entries : List (ℕ × V)) → HasKeysOnce entries → IsDistinct nat_eq (keys_in entries)
  keys-once [] once = none_once
  keys-once (entry ∷ entries) once =
      IsDistinct-cons nat_eq entry.0 (keys_in entries) (apart_all entry.0 (keys_in entries) (keys-among entries entry.0 ∙ once.0)) (keys-once entries once.1)

module _ (table : List CounterStyle) (merge : Merge Node) (old new : Forest (Keyed Node)) (was is caught : List (ℕ × Told)) (held : FinMap nat_cmp Kept)
    (tells : TellsOfWalk table merge old new was is caught held) (was_named : (key : ℕ) → is_some (kept_at was key) ≡ is_some (name_of old key)) where
  abbrev enters : ℕ × Told → Bool
  enters element = is_among (entered_elements merge) element.0

  -- what was told of elements that are entered
  abbrev entered : List (ℕ × Told)
  entered = filter enters caught

  -- an element that did not stand in the old document is entered
  fresh_enters : (key : ℕ) → IsSome (name_of new key) → is_among (elements_in old) key ≡ false → is_among (entered_elements merge) key ≡ true
  fresh_enters key named absent =
      elim (stays key merge (ap (λ (trees : Forest (Keyed Node)). is_among (elements_in trees) key) tells.merges.new ∙ element_listed new key named)) [
        | inl there ↦ there
        | inr stood ↦ absurd (true≢false (sym stood ∙ ap (λ (trees : Forest (Keyed Node)). is_among (elements_in trees) key) tells.merges.old ∙ absent))
      ]

  -- and it was caught
  fresh_caught : (key : ℕ) (told : Told) → kept_at is key ≡ Some told → is_among (elements_in old) key ≡ false → Contains caught (key, told)
  fresh_caught key told there absent = elim (All-contains (λ (one : ℕ × Told). Contains caught one ⊎ (first_at was one.0 ≡ Some one.1)) is (key, told) tells.covers (kept_there is key told there)) [
    | inl found ↦ found
    | inr before ↦
        let named : IsSome (name_of old key) = sym (was_named key) ∙ ap (λ o. is_some o) (sym (at_first was key) ∙ before) in
        absurd (true≢false (sym (element_listed old key named) ∙ absent))
  ]

  told_or_stood : (key : ℕ) → IsSome (name_of new key) → (is_among (keys_of entered) key ≡ true) ⊎ (is_among (elements_in old) key ≡ true)
  told_or_stood key named = elim (cases_Bool (is_among (elements_in old) key)) [
    | inl stood ↦ inr stood
    | inr absent ↦
        let told = some_of (kept_at is key) (tells.named key ∙ named) in
        let there : Contains entered (key, told.0) =
        All-contains (λ (one : ℕ × Told). enters one ≡ true → Contains entered one) caught (key, told.0) (kept enters caught) (fresh_caught key told.0 told.1 absent) (fresh_enters key named absent) in
        inl (keys_told entered key ∙ key_there entered (key, told.0) there)
  ]

  module _ (few : length caught ≤ element_count (without_keys new)) (gone : List ℕ) (once : IsDistinct nat_eq gone)
      (gone_are : (key : ℕ) → is_among gone key ≡ true → (is_some (name_of old key) ≡ true) × (is_some (name_of new key) ≡ false)) where
    -- the elements of the new document
    abbrev elements : List ℕ
    elements = keys_in (document_kept agent_sheet new)

    named : (key : ℕ) → is_among elements key ≡ true → IsSome (name_of new key)
    named key there =
        sym (kept_keys agent_sheet new tells.distinct_after key) ∙ some-kept key (document_kept agent_sheet new) ∙ sym (keys-among (document_kept agent_sheet new) key) ∙ there

    disjoint : (key : ℕ) → is_among elements key ≡ true → is_among gone key ≡ false
    disjoint key there = elim (cases_Bool (is_among gone key)) [
      | inl goes ↦ absurd (true≢false (sym (named key there) ∙ (gone_are key goes).1))
      | inr stay ↦ stay
    ]

    each : (key : ℕ) → is_among (elements ++ gone) key ≡ true → is_among (keys_of entered ++ elements_in old) key ≡ true
    each key there = elim (either_among key elements gone there) [
      | inl now ↦ elim (told_or_stood key (named key now)) [
        | inl told ↦ left key told
        | inr stood ↦ right key stood
      ]
      | inr goes ↦ right key (element_listed old key (gone_are key goes).0)
    ]
      where
        left : (key : ℕ) → is_among (keys_of entered) key ≡ true → is_among (keys_of entered ++ elements_in old) key ≡ true
        left key told = left_among key (keys_of entered) (elements_in old) told

        right : (key : ℕ) → is_among (elements_in old) key ≡ true → is_among (keys_of entered ++ elements_in old) key ≡ true
        right key stood = right_among key (keys_of entered) (elements_in old) stood

    few_passed : length (passed_among (entered_elements merge) caught) + length gone ≤ element_count (without_keys old)
    few_passed =
        let all =
        no_more (elements ++ gone) (keys_of entered ++ elements_in old)
        (joined elements gone (keys-once (document_kept agent_sheet new) (kept_once agent_sheet new tells.distinct_after)) once disjoint) each in
        omega (
          arith,
          all,
          few,
          length-append elements gone,
          length-append (keys_of entered) (elements_in old),
          length-map entered (λ (element : ℕ × Told). element.0),
          length-map (document_kept agent_sheet new) (λ (entry : ℕ × Kept). entry.0),
          kept_count agent_sheet new tells.distinct_after,
          count-elements old,
          length-filter_both enters (λ one. not (enters one)) (λ one. refl) caught,
        )

pub passed_elements_stay : PassedElementsStay
passed_elements_stay stops table merge old new was is caught held at tells was_named few gone once gone_are =
    let same : elements_at_stops new stops ≡ entered_elements merge = ap (elements_at_stops new) at ∙ sym (stops_tell_entered merge old new tells.merges tells.distinct_after) in
    omega (
      arith,
      few_passed table merge old new was is caught held tells was_named few gone once gone_are,
      ap (λ (keys : List ℕ). length (passed_among keys caught)) same,
    )
