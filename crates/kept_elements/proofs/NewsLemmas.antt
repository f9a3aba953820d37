-- Of what was caught those are enough that can be told otherwise than before.
use Rattle.std.proofs.Common.{◌≡◌, ◌||◌, ◌⊎◌, ◌∙◌, ℕ, Bool, true, false, cond, not, List, [], ◌∷◌, Option, Some, None, refl, sym, ap, ap₂, arith, inl, inr}
use Rattle.std.specs.Prelude.{All, Contains, filter, option_map}
use Rattle.std.specs.FinMap.{FinMap, get}
use Rattle.std.specs.Option.{option_eq, option_map_or}
use Rattle.std.specs.Ordering.{nat_cmp}
use Rattle.std.proofs.lemmas.Bool.{cases_Bool, or_parts, true≢false}
use Rattle.std.proofs.lemmas.List.Elements.{All-contains, All-contains_itself, All-cons, All-filter, All-head, All-nil, All-tail, All-weaker, Contains-append_right}
use Rattle.forest.specs.Forest.{Forest}
use Rattle.forest.specs.Keys.{Keyed}
use Rattle.plain_types.specs.declared.counter_style.CounterStyle.{CounterStyle}
use Rattle.plain_types.specs.declared.node.Node.{Node}
use Rattle.generated_texts.specs.References.{kept_at}
use Rattle.merged_walk.specs.Entries.{first_at}
use Rattle.merged_walk.specs.Merges.{Merge}
use Rattle.merged_walk.specs.declared.stop.Stop.{Stop}
use Rattle.merged_walk.specs.Stops.{stops_of}
use Rattle.surroundings.specs.declared.told.Told.{Told}
use Rattle.surroundings.specs.declared.walked.Walked.{Walked}
use Rattle.surroundings.specs.Surroundings.{is_same}
use Rattle.surroundings.proofs.SameLaws.{walked-same}
use Rattle.edit_merge.specs.EditMerges.{is_element}
use Rattle.edit_work.specs.KeyedSources.{is_among}
use Rattle.reference_reach.specs.MergedNodes.{elements_at_stops, entered_elements}
use Rattle.reference_reach.proofs.LawLemmas.{stops_tell_entered}
use Rattle.kept_elements.specs.declared.kept.Kept.{Kept}
use Rattle.kept_elements.specs.News.{AreNewsOf, KeepsTold, TellsNews, is_handed_as_held, is_handed_so, is_news}
use Rattle.kept_elements.specs.Renewals.{TellsOfWalk, kept_in}
use Rattle.kept_elements.proofs.KeyWeights.{either_true}
use Rattle.kept_elements.proofs.RenewalLemmas.{at_first, once_there}
use Rattle.kept_elements.proofs.RenewedLemmas.{once_keys}

-- Tests that answer the same keep the same.
pub same_filter : {X : Type 0} (one other : X → Bool) → ((x : X) → one x ≡ other x) → (xs : List X) → filter one xs ≡ filter other xs
same_filter one other same [] = refl
same_filter one other same (x ∷ xs) = ap₂ (λ (b : Bool) rest. cond b (x ∷ rest) rest) (same x) (same_filter one other same xs)

pub same_news : (entered others : List ℕ) (held : FinMap nat_cmp Kept) → ((key : ℕ) → is_among entered key ≡ is_among others key) → (told : List (ℕ × Told))
    → filter (is_news entered held) told ≡ filter (is_news others held) told
same_news entered others held same told =
    same_filter (is_news entered held) (is_news others held) (λ (x : ℕ × Told). ap (λ b. b || not (is_handed_as_held held x.0 x.1.walked)) (same x.0)) told

-- what passes a test is kept
pub kept : {X : Type 0} (p : X → Bool) (xs : List X) → All (λ x. p x ≡ true → Contains (filter p xs) x) xs
kept {X} p [] = All-nil (λ (x : X). p x ≡ true → Contains [] x)
kept {X} p (x ∷ xs) =
    All-cons (λ (y : X). p y ≡ true → Contains (filter p (x ∷ xs)) y) x xs (λ is. own (p x) is)
    (All-weaker (λ (y : X). p y ≡ true → Contains (filter p xs) y) (λ (y : X). p y ≡ true → Contains (filter p (x ∷ xs)) y) (λ y there is. behind (p x) y (there is)) xs (kept p xs))
  where
    own : (b : Bool) → b ≡ true → Contains (cond b (x ∷ filter p xs) (filter p xs)) x
    own true is = (0, omega arith, refl)
    own false is = absurd (true≢false (sym is))

    behind : (b : Bool) (y : X) → Contains (filter p xs) y → Contains (cond b (x ∷ filter p xs) (filter p xs)) y
    behind true y there = Contains-append_right (x ∷ []) (filter p xs) y there
    behind false y there = there

-- and what is kept passes it
passing : {X : Type 0} (p : X → Bool) (xs : List X) → All (λ x. p x ≡ true) (filter p xs)
passing p [] = All-nil (λ x. p x ≡ true)
passing p (x ∷ xs) = by (p x) refl (passing p xs)
  where
    by : (b : Bool) → p x ≡ b → All (λ x. p x ≡ true) (filter p xs) → All (λ x. p x ≡ true) (cond b (x ∷ filter p xs) (filter p xs))
    by true is rest = All-cons (λ x. p x ≡ true) x (filter p xs) is rest
    by false is rest = rest

so : (one other : Walked) → is_handed_so one other ≡ true → one ≡ other
so one other same = (walked-same one other (option_eq is_same one.handed other.handed) (option_eq is_same one.behind other.behind) refl refl).0 same

itself : (one : Walked) → is_handed_so one one ≡ true
itself one = (walked-same one one (option_eq is_same one.handed one.handed) (option_eq is_same one.behind one.behind) refl refl).1 refl

not_false : (b : Bool) → not b ≡ false → b ≡ true
not_false true h = refl
not_false false h = absurd (true≢false h)

not_true : (b : Bool) → not b ≡ true → b ≡ false
not_true true h = absurd (true≢false (sym h))
not_true false h = refl

module _ (stops : List Stop) (new : Forest (Keyed Node)) (caught : List (ℕ × Told)) (held : FinMap nat_cmp Kept) where
  abbrev entered : List ℕ
  entered = elements_at_stops new stops

  abbrev news : List (ℕ × Told)
  news = filter (is_news entered held) caught

  module _ (table : List CounterStyle) (merge : Merge Node) (old : Forest (Keyed Node)) (was is : List (ℕ × Told)) (at : stops ≡ stops_of is_element 0 merge) (keeps : KeepsTold merge was is)
      (tells : TellsOfWalk table merge old new was is caught held) where
    entered_is : entered ≡ entered_elements merge
    entered_is = ap (elements_at_stops new) at ∙ sym (stops_tell_entered merge old new tells.merges tells.distinct_after)

    -- what is held of an element that was told
    held_is : (key : ℕ) (o : Option Told) → kept_at was key ≡ o → get held key ≡ option_map (kept_in table old was) o
    held_is key o e = tells.held_are key ∙ ap (option_map (kept_in table old was)) e

    handed_is : (key : ℕ) (walked : Walked) (o : Option Told) → kept_at was key ≡ o → is_handed_as_held held key walked ≡ option_map_or (λ (t : Told). is_handed_so t.walked walked) o false
    handed_is key walked o e = ap (λ (k : Option Kept). option_map_or (λ (kept : Kept). is_handed_so kept.walked walked) k false) (held_is key o e) ∙ by o
      where
        by : (o : Option Told) → option_map_or (λ (kept : Kept). is_handed_so kept.walked walked) (option_map (kept_in table old was) o) false ≡ option_map_or (λ (t : Told). is_handed_so t.walked walked) o false
        by None = refl
        by (Some t) = refl

    told_before : (x : ℕ × Told) → Contains is x → is_news entered held x ≡ false → kept_at was x.0 ≡ Some x.1
    told_before x there old_one = by (kept_at was x.0) refl
      where
        both : (is_among entered x.0 ≡ false) × (not (is_handed_as_held held x.0 x.1.walked) ≡ false)
        both = or_parts (is_among entered x.0) (not (is_handed_as_held held x.0 x.1.walked)) old_one

        by : (o : Option Told) → kept_at was x.0 ≡ o → kept_at was x.0 ≡ Some x.1
        by None e = absurd (true≢false (sym (not_false (is_handed_as_held held x.0 x.1.walked) both.1) ∙ handed_is x.0 x.1.walked None e))
        by (Some t) e =
            let walked : t.walked ≡ x.1.walked = so t.walked x.1.walked (sym (handed_is x.0 x.1.walked (Some t) e) ∙ not_false (is_handed_as_held held x.0 x.1.walked) both.1) in
            let apart : is_among (entered_elements merge) x.0 ≡ false = sym (ap (λ ks. is_among ks x.0) entered_is) ∙ both.0 in
            e ∙ ap (λ (one : Told). Some one) (keeps x.0 t x.1 e (once_there is (once_keys is tells.once) x there) apart walked)

    covered : (x : ℕ × Told) → Contains is x → Contains caught x ⊎ (first_at was x.0 ≡ Some x.1) → Contains news x ⊎ (first_at was x.0 ≡ Some x.1)
    covered x there (inr before) = inr before
    covered x there (inl caught_one) = elim (cases_Bool (is_news entered held x)) [
      | inl new_one ↦ inl (All-contains (λ (y : ℕ × Told). is_news entered held y ≡ true → Contains news y) caught x (kept (is_news entered held) caught) caught_one new_one)
      | inr old_one ↦ inr (at_first was x.0 ∙ told_before x there old_one)
    ]

    otherwise : (x : ℕ × Told) → is_news entered held x ≡ true → (is_among (entered_elements merge) x.0 ≡ true) ⊎ (kept_at was x.0 ≡ Some x.1 → ⊥)
    otherwise x new_one = elim (either_true (is_among entered x.0) (not (is_handed_as_held held x.0 x.1.walked)) new_one) [
      | inl enters ↦ inl (sym (ap (λ ks. is_among ks x.0) entered_is) ∙ enters)
      | inr other ↦ inr (λ e. true≢false (sym (itself x.1.walked) ∙ sym (handed_is x.0 x.1.walked (Some x.1) e) ∙ not_true (is_handed_as_held held x.0 x.1.walked) other))
    ]

    tells_news : TellsNews table merge old new was is news held
    tells_news = record {
      tells = record {
        merges = tells.merges;
        distinct_before = tells.distinct_before;
        distinct_after = tells.distinct_after;
        once = tells.once;
        named = tells.named;
        held_are = tells.held_are;
        covers = All-weaker (λ (x : ℕ × Told). Contains is x × (Contains caught x ⊎ (first_at was x.0 ≡ Some x.1))) (λ (x : ℕ × Told). Contains news x ⊎ (first_at was x.0 ≡ Some x.1))
            (λ x both. covered x both.0 both.1) is (two (Contains is) (λ (x : ℕ × Told). Contains caught x ⊎ (first_at was x.0 ≡ Some x.1)) is (All-contains_itself is) tells.covers);
        among = All-filter (is_news entered held) (Contains is) caught tells.among;
      };
      each = All-weaker (λ (x : ℕ × Told). is_news entered held x ≡ true) (λ (x : ℕ × Told). (is_among (entered_elements merge) x.0 ≡ true) ⊎ (kept_at was x.0 ≡ Some x.1 → ⊥)) otherwise news (passing (is_news entered held) caught);
    }
      where
        two : (P Q : ℕ × Told → Type 0) (xs : List (ℕ × Told)) → All P xs → All Q xs → All (λ x. P x × Q x) xs
        two P Q [] one other = All-nil (λ x. P x × Q x)
        two P Q (x ∷ xs) one other = All-cons (λ x. P x × Q x) x xs (All-head P x xs one, All-head Q x xs other) (two P Q xs (All-tail P x xs one) (All-tail Q x xs other))

  pub are_news : AreNewsOf stops new caught held news
  are_news table merge old was is at keeps tells = tells_news table merge old was is at keeps tells
