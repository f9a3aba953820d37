-- How many steps it takes to make texts again after an edit: the elements that are told, those that are told again, and those
-- to which they refer.
use Rattle.std.proofs.Common.{◌≡◌, ◌==◌, ◌≤◌, ◌+◌, ◌++◌, ◌||◌, ◌∙◌, ◌⊎◌, ℕ, nat_eq, Bool, true, false, List, [], ◌∷◌, length, length-append, Option, Some, None, arith, eq-eqb, eqb-true, flat_map, refl, sym, ap, inl, inr}
use Rattle.std.specs.Prelude.{Contains, filter, is_some, option_map, sum_by}
use Rattle.std.specs.FinMap.{FinMap, get}
use Rattle.std.specs.List.{IsDistinct, filter_map, list_any}
use Rattle.std.specs.Option.{option_and_then, option_eq, option_map_or}
use Rattle.std.specs.Ordering.{nat_cmp}
use Rattle.std.proofs.lemmas.Bool.{true≢false}
use Rattle.std.proofs.lemmas.List.Elements.{All-head, All-tail}
use Rattle.std.proofs.lemmas.List.Folds.{list_any-append}
use Rattle.std.proofs.lemmas.List.Sums.{sum_by-cons}
use Rattle.std.proofs.lemmas.Option.{none-some}
use Rattle.forest.specs.Forest.{Forest}
use Rattle.forest.specs.Keys.{Keyed}
use Rattle.plain_types.specs.declared.counter_style.CounterStyle.{CounterStyle}
use Rattle.plain_types.specs.declared.node.Node.{Node}
use Rattle.box_eval.specs.declared.element_record.ElementRecord.{ElementRecord}
use Rattle.box_pieces.specs.declared.box_pieces.BoxPieces.{BoxPieces}
use Rattle.generated_texts.specs.References.{first_holder, kept_at}
use Rattle.merged_walk.specs.Entries.{AreAmong}
use Rattle.merged_walk.specs.Merges.{Merge}
use Rattle.surroundings.specs.declared.told.Told.{Told}
use Rattle.edit_work.specs.KeyedSources.{elements_in, is_among, references_of}
use Rattle.reference_reach.specs.ChangedTargets.{Evaluated, has_changed_target, has_referring_target, references_at, refers, refers_through}
use Rattle.reference_reach.specs.Laws.{RefersTheSame}
use Rattle.reference_reach.specs.MergedNodes.{entered_elements}
use Rattle.reference_reach.specs.ToldLaws.{keys_of}
use Rattle.reference_reach.proofs.LawLemmas.{referring_rests_on_elements}
use Rattle.referring_elements.specs.Found.{is_named}
use Rattle.kept_elements.specs.declared.kept.Kept.{Kept}
use Rattle.kept_elements.specs.RenewalSteps.{renewal_weight, weight_in}
use Rattle.kept_elements.specs.Renewals.{TellsOfEdit, evaluated_as, is_told, kept_in}
use Rattle.kept_elements.specs.Machinery.Renewals.{again, names, some_names, told_again, with_again}
use Rattle.kept_elements.proofs.AgainLemmas.{all-again, or_right, own}
use Rattle.kept_elements.proofs.ChangeLemmas.{some-kept, some_of}
use Rattle.kept_elements.proofs.KeyWeights.{among-filter, either_true, element_listed, weigh_where}
use Rattle.kept_elements.proofs.KnownLemmas.{kept_mapped}
use Rattle.kept_elements.proofs.RenewalLemmas.{once_there}
use Rattle.kept_elements.proofs.RenewedLemmas.{caught_there, chosen, named_first, named_second, once_keys, own_tells}

-- Lists.

either_among : (xs ys : List ℕ) (key : ℕ) → is_among xs key ≡ true → is_among (xs ++ ys) key ≡ true
either_among xs ys key there = list_any-append (λ other. other == key) xs ys ∙ ap (λ b. b || is_among ys key) there

or_among : (xs ys : List ℕ) (key : ℕ) → is_among ys key ≡ true → is_among (xs ++ ys) key ≡ true
or_among xs ys key there = list_any-append (λ other. other == key) xs ys ∙ or_right (is_among xs key) (is_among ys key) there

flat_among : (f : ℕ → List ℕ) (ks : List ℕ) (k key : ℕ) → is_among ks k ≡ true → is_among (f k) key ≡ true → is_among (flat_map f ks) key ≡ true
flat_among f [] k key there its = absurd (true≢false (sym there))
flat_among f (x ∷ ks) k key there its =
    elim (either_true (x == k) (is_among ks k) there) [
      | inl same ↦ either_among (f x) (flat_map f ks) key (ap (λ n. is_among (f n) key) (eqb-true x k same) ∙ its)
      | inr behind ↦ or_among (f x) (flat_map f ks) key (flat_among f ks k key behind its)
    ]

some_length : {X : Type 0} (p : X → Bool) (xs : List X) → list_any p xs ≡ true → 1 ≤ length xs
some_length p [] some = absurd (true≢false (sym some))
some_length p (x ∷ xs) some = omega arith

pub keys_told : (told : List (ℕ × Told)) (key : ℕ) → is_among (keys_of told) key ≡ is_told told key
keys_told [] key = refl
keys_told (x ∷ told) key = ap (λ b. (x.0 == key) || b) (keys_told told key)

module _ (new : Forest (Keyed Node)) where
  -- the elements that ids name
  abbrev named_by : List (List ℕ) → List ℕ
  named_by ids = filter_map (first_holder new) ids

  few_named_by : (ids : List (List ℕ)) → length (named_by ids) ≤ length ids
  few_named_by [] = omega arith
  few_named_by (id ∷ ids) = by (first_holder new id) refl (few_named_by ids)
    where
      by : (o : Option ℕ) → first_holder new id ≡ o → length (named_by ids) ≤ length ids → length (named_by (id ∷ ids)) ≤ length (id ∷ ids)
      by None is rest = rw is (omega (arith, rest))
      by (Some k) is rest = rw is (omega (arith, rest))

  named_among : (ids : List (List ℕ)) (key : ℕ) → list_any (is_named new key) ids ≡ true → is_among (named_by ids) key ≡ true
  named_among [] key does = absurd (true≢false (sym does))
  named_among (id ∷ ids) key does = by (first_holder new id) refl (either_true (is_named new key id) (list_any (is_named new key) ids) does) (λ h. named_among ids key h)
    where
      by : (o : Option ℕ) → first_holder new id ≡ o → (is_named new key id ≡ true) ⊎ (list_any (is_named new key) ids ≡ true)
          → (list_any (is_named new key) ids ≡ true → is_among (named_by ids) key ≡ true) → is_among (named_by (id ∷ ids)) key ≡ true
      by None is (inl its) rest = absurd (true≢false (sym its ∙ ap (λ (o : Option ℕ). option_eq nat_eq o (Some key)) is))
      by None is (inr behind) rest = rw is (rest behind)
      by (Some k) is (inl its) rest = rw is (ap (λ b. b || is_among (named_by ids) key) (sym (ap (λ (o : Option ℕ). option_eq nat_eq o (Some key)) is) ∙ its))
      by (Some k) is (inr behind) rest = rw is (or_right (k == key) (is_among (named_by ids) key) (rest behind))

module _ (table : List CounterStyle) (merge : Merge Node) (old new : Forest (Keyed Node)) (was is caught : List (ℕ × Told)) (held : FinMap nat_cmp Kept) (visited first second : List ℕ)
    (r : TellsOfEdit table merge old new was is caught held visited first second) where
  abbrev before : Evaluated
  before = evaluated_as old was

  abbrev after : Evaluated
  after = evaluated_as new is

  abbrev changed : List ℕ
  changed = keys_of caught ++ entered_elements merge

  abbrev all : List (ℕ × Told)
  all = with_again held (with_again held caught first) second

  abbrev w : ℕ → ℕ
  w = weight_in before after

  references_told : (told : List (ℕ × Told)) (key : ℕ) (t : Told) → kept_at told key ≡ Some t → references_at (evaluated_as old told) key ≡ references_of t.said
  references_told told key t there =
      ap (λ (o : Option ElementRecord). option_map_or references_of o []) (kept_mapped (λ (one : Told). one.said) told key ∙ ap (option_map (λ (one : Told). one.said)) there)

  -- What is caught.

  abbrev of_caught : List ℕ
  of_caught = filter (is_told caught) (elements_in new)

  caught_told : (key : ℕ) → is_told caught key ≡ true → (t : Told) × (kept_at is key ≡ Some t)
  caught_told key does =
      let t = some_of (kept_at caught key) (some-kept key caught ∙ does) in
      (t.0, caught_there caught is r.walk.once r.walk.among key t.0 t.1)

  caught_listed : (key : ℕ) → is_told caught key ≡ true → is_among of_caught key ≡ true
  caught_listed key does =
      let t = caught_told key does in
      among-filter (is_told caught) key does (elements_in new) (element_listed new key (sym (r.walk.named key) ∙ ap (λ (o : Option Told). is_some o) t.1))

  abbrev named_after : ℕ → List ℕ
  named_after key = named_by new (references_at after key)

  named_caught : (xs : List (ℕ × Told)) → AreAmong xs is → ((k : ℕ) → is_told xs k ≡ true → is_told caught k ≡ true)
      → (key : ℕ) → some_names new xs key ≡ true → is_among (flat_map named_after of_caught) key ≡ true
  named_caught [] among sub key does = absurd (true≢false (sym does))
  named_caught (x ∷ xs) among sub key does = elim (either_true (names new key x.1) (some_names new xs key) does) [
    | inl its ↦
        let there : kept_at is x.0 ≡ Some x.1 = once_there is (once_keys is r.walk.once) x (All-head (Contains is) x xs among) in
        flat_among named_after of_caught x.0 key (caught_listed x.0 (sub x.0 (ap (λ b. b || is_told xs x.0) (eq-eqb x.0 x.0 refl))))
        (named_among new (references_at after x.0) key (ap (list_any (is_named new key)) (references_told is x.0 x.1 there) ∙ its))
    | inr rest ↦ named_caught xs (All-tail (Contains is) x xs among) (λ k h. sub k (or_right (x.0 == k) (is_told xs k) h)) key rest
  ]

  -- What is told again.

  abbrev named_before : ℕ → List ℕ
  named_before key = named_by new (references_at before key)

  or_none : (b : Bool) → (b || false) ≡ b
  or_none true = refl
  or_none false = refl

  names_again : (k key : ℕ) → some_names new (again held k) key ≡ option_map_or (names new key) (own held k) false
  names_again k key = by (get held k)
    where
      two : (kept : Kept) (o : Option BoxPieces) → some_names new (option_map_or (λ (pieces : BoxPieces). (k, told_again kept pieces) ∷ []) o []) key ≡ option_map_or (names new key) (option_map (told_again kept) o) false
      two kept None = refl
      two kept (Some pieces) = or_none (names new key (told_again kept pieces))

      by : (o : Option Kept) → some_names new (option_map_or (λ (kept : Kept). option_map_or (λ (pieces : BoxPieces). (k, told_again kept pieces) ∷ []) kept.pieces []) o []) key
          ≡ option_map_or (names new key) (option_and_then (λ (kept : Kept). option_map (told_again kept) kept.pieces) o) false
      by None = refl
      by (Some kept) = two kept kept.pieces

  -- where something is, that was told
  own_was : (k : ℕ) (a : Told) → own held k ≡ Some a → (t : Told) × (kept_at was k ≡ Some t)
  own_was k a its = by (kept_at was k) refl
    where
      by : (o : Option Told) → kept_at was k ≡ o → (t : Told) × (kept_at was k ≡ Some t)
      by (Some t) e = (t, e)
      by None e =
          absurd (none-some a (sym (ap (λ (o : Option Kept). option_and_then (λ (kept : Kept). option_map (told_again kept) kept.pieces) o) (r.walk.held_are k ∙ ap (option_map (kept_in table old was)) e)) ∙ its))

  named_own : (k key : ℕ) → some_names new (again held k) key ≡ true → is_among (named_before k) key ≡ true
  named_own k key does = by (own held k) refl (sym (names_again k key) ∙ does)
    where
      by : (o : Option Told) → own held k ≡ o → option_map_or (names new key) o false ≡ true → is_among (named_before k) key ≡ true
      by None its h = absurd (true≢false (sym h))
      by (Some a) its h =
          let t = own_was k a its in
          let tells = own_tells table merge old new was is caught held visited first second r k t.0 a t.1 its in
          named_among new (references_at before k) key (ap (list_any (is_named new key)) (references_told was k t.0 t.1 ∙ sym tells.references) ∙ h)

  named_again : (ks : List ℕ) (key : ℕ) → some_names new (flat_map (again held) ks) key ≡ true → is_among (flat_map named_before ks) key ≡ true
  named_again [] key does = absurd (true≢false (sym does))
  named_again (k ∷ ks) key does =
      elim (either_true (some_names new (again held k) key) (some_names new (flat_map (again held) ks) key)
      (sym (list_any-append (λ (element : ℕ × Told). names new key element.1) (again held k) (flat_map (again held) ks)) ∙ does)) [
        | inl its ↦ either_among (named_before k) (flat_map named_before ks) key (named_own k key its)
        | inr rest ↦ or_among (named_before k) (flat_map named_before ks) key (named_again ks key rest)
      ]

  told_again_among : (ks : List ℕ) (key : ℕ) → is_told (flat_map (again held) ks) key ≡ true → is_among ks key ≡ true
  told_again_among ks key does =
      let a = some_of (kept_at (flat_map (again held) ks) key) (some-kept key (flat_map (again held) ks) ∙ does) in
      (chosen (is_among ks key) (own held key) a.0 (sym (all-again held ks key) ∙ a.1)).0

  -- All of them.

  abbrev pub told_elements : List ℕ
  told_elements = of_caught ++ (first ++ second)

  abbrev pub target_elements : List ℕ
  target_elements = flat_map named_after of_caught ++ (flat_map named_before first ++ flat_map named_before second)

  three : (p : ℕ × Told → Bool) → list_any p all ≡ true
      → (list_any p caught ≡ true) ⊎ ((list_any p (flat_map (again held) first) ≡ true) ⊎ (list_any p (flat_map (again held) second) ≡ true))
  three p does =
      let some = with_again held caught first in
      elim (either_true (list_any p some) (list_any p (flat_map (again held) second)) (sym (list_any-append p some (flat_map (again held) second)) ∙ does)) [
        | inl before ↦ elim (either_true (list_any p caught) (list_any p (flat_map (again held) first)) (sym (list_any-append p caught (flat_map (again held) first)) ∙ before)) [
          | inl a ↦ inl a
          | inr b ↦ inr (inl b)
        ]
        | inr c ↦ inr (inr c)
      ]

  pub told_are : (key : ℕ) → is_told all key ≡ true → is_among told_elements key ≡ true
  told_are key does = elim (three (λ (element : ℕ × Told). element.0 == key) does) [
    | inl a ↦ either_among of_caught (first ++ second) key (caught_listed key a)
    | inr more ↦ or_among of_caught (first ++ second) key (elim more [
      | inl b ↦ either_among first second key (told_again_among first key b)
      | inr c ↦ or_among first second key (told_again_among second key c)
    ])
  ]

  pub targets_are : (key : ℕ) → some_names new all key ≡ true → is_among target_elements key ≡ true
  targets_are key does = elim (three (λ (element : ℕ × Told). names new key element.1) does) [
    | inl a ↦
        either_among (flat_map named_after of_caught) (flat_map named_before first ++ flat_map named_before second) key (named_caught caught r.walk.among (λ k h. h) key a)
    | inr more ↦ or_among (flat_map named_after of_caught) (flat_map named_before first ++ flat_map named_before second) key (elim more [
      | inl b ↦ either_among (flat_map named_before first) (flat_map named_before second) key (named_again first key b)
      | inr c ↦ or_among (flat_map named_before first) (flat_map named_before second) key (named_again second key c)
    ])
  ]

  -- What they weigh.

  caught_weigh : (ks : List ℕ) → length ks + length (flat_map named_after ks) ≤ sum_by w ks
  caught_weigh [] = omega arith
  caught_weigh (k ∷ ks) =
      omega (arith, caught_weigh ks, sum_by-cons w k ks, length-append (named_after k) (flat_map named_after ks), few_named_by new (references_at after k))

  again_weigh : (ks : List ℕ) → ((k : ℕ) → is_among ks k ≡ true → 1 ≤ length (references_at after k)) → (length ks + length ks) + length (flat_map named_before ks) ≤ sum_by w ks
  again_weigh [] refer = omega arith
  again_weigh (k ∷ ks) refer =
      omega (
        arith,
        again_weigh ks (λ other h. refer other (or_right (k == other) (is_among ks other) h)),
        sum_by-cons w k ks,
        length-append (named_before k) (flat_map named_before ks),
        few_named_by new (references_at before k),
        refer k (ap (λ b. b || is_among ks k) (eq-eqb k k refl)),
      )

  same : (key : ℕ) → RefersTheSame before after changed (visited ++ entered_elements merge) key
  same key =
      referring_rests_on_elements before after changed (visited ++ entered_elements merge)
      (λ k.
      list_any-append (λ other. other == k) (keys_of caught) (entered_elements merge)
      ∙ ap (λ b. b || is_among (entered_elements merge) k) (keys_told caught k ∙ sym (r.visited_are k))
      ∙ sym (list_any-append (λ other. other == k) visited (entered_elements merge)))
      key

  refer_first : (k : ℕ) → is_among first k ≡ true → 1 ≤ length (references_at after k)
  refer_first k among = some_length (has_changed_target before after (visited ++ entered_elements merge)) (references_at after k) (sym (r.first_are k) ∙ among)

  refer_second : (k : ℕ) → is_among second k ≡ true → 1 ≤ length (references_at after k)
  refer_second k among = some_length (has_referring_target before after (visited ++ entered_elements merge)) (references_at after k) (sym (r.second_are k) ∙ among)

  first_weigh : IsDistinct nat_eq first → (length first + length first) + length (flat_map named_before first) ≤ sum_by w (filter (refers before after changed) (elements_in new))
  first_weigh once =
      let all =
      weigh_where w new (refers before after changed) first once (λ k among. (same k).first ∙ sym (r.first_are k) ∙ among)
      (named_first table merge old new was is caught held visited first second r) in
      omega (arith, all, again_weigh first refer_first)

  second_weigh : IsDistinct nat_eq second → (length second + length second) + length (flat_map named_before second) ≤ sum_by w (filter (refers_through before after changed) (elements_in new))
  second_weigh once =
      let all =
      weigh_where w new (refers_through before after changed) second once (λ k among. (same k).second ∙ sym (r.second_are k) ∙ among)
      (named_second table merge old new was is caught held visited first second r) in
      omega (arith, all, again_weigh second refer_second)

  pub first_is_few : IsDistinct nat_eq first → length first ≤ renewal_weight before after merge caught
  first_is_few once = omega (arith, first_weigh once)

  pub few_steps : IsDistinct nat_eq first → IsDistinct nat_eq second → (length first + length second) + (length told_elements + length target_elements) ≤ renewal_weight before after merge caught
  few_steps once_first once_second =
      omega (
        arith,
        first_weigh once_first,
        second_weigh once_second,
        caught_weigh of_caught,
        length-append of_caught (first ++ second),
        length-append first second,
        length-append (flat_map named_after of_caught) (flat_map named_before first ++ flat_map named_before second),
        length-append (flat_map named_before first) (flat_map named_before second),
      )
